use Rattle.std.proofs.Common.{sym, ◌∙◌}
use Rattle.bidi_reduce.proofs.StrikeLemmas.{follows_kept, follows_struck}
use Rattle.bidi_reduce.proofs.striking.take_kept.Goals as goal

pub returns-then-branch-clause-ok : goal.returns-then-branch-clause-ok
returns-then-branch-clause-ok c =
    let struck = c.in_ok-is_struck.ensures in
    let found = struck.heard c.if-branch.true in (
      found.0,
      found.1,
      λ inputs f. follows_struck c.args.end.now c.is_struck.new.self c.args.session inputs found.0 f struck.kept
          (sym c.if-branch.true ∙ struck.struck f.taken found.0 f.stands found.1),
    )

pub returns-clause-ok : goal.returns-clause-ok
returns-clause-ok c =
    let struck = c.in_ok-is_struck.ensures in
    let heard = c.in_ok-step.ensures.ok in (
      heard.0,
      heard.1,
      λ inputs f. follows_kept c.args.end.now c.step.new.self c.args.session inputs heard.0 f
          (λ stands. (heard.2 f.taken (struck.kept f.taken stands)).1)
          (sym c.if-branch.false ∙ struck.struck f.taken heard.0 f.stands heard.1),
    )
