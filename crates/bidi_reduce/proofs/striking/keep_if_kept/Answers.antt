use Rattle.std.proofs.Common.{sym, subst, ◌∙◌}
use Rattle.bidi_remote.specs.Machine.History.{IsHeardAs}
use Rattle.bidi_sessions.specs.View.{step_of}
use Rattle.bidi_reduce.specs.Follows.{is_kept}
use Rattle.bidi_reduce.proofs.StrikeLemmas.{none_added, one_added}
use Rattle.bidi_reduce.proofs.striking.keep_if_kept.Goals as goal

pub returns-then-not-branch-clause-ok : goal.returns-then-not-branch-clause-ok
returns-then-not-branch-clause-ok c =
    let (i, heard, goes) = c.in_ok-take_kept.ensures.ok in (
      i,
      subst (λ s. IsHeardAs s i) c.in_ok-copy.ensures heard,
      λ inputs f. (
        none_added _ (step_of c.args.step.now) (is_kept c.args.session inputs i) (sym (goes inputs f).0 ∙ c.if-not-branch.true),
        (goes inputs f).1,
      ),
    )

pub returns-clause-ok : goal.returns-clause-ok
returns-clause-ok c =
    let (i, heard, goes) = c.in_ok-take_kept.ensures.ok in (
      i,
      subst (λ s. IsHeardAs s i) c.in_ok-copy.ensures heard,
      λ inputs f. (
        one_added c.args.kept.now.items c.keep.new.kept.items c.in_ok-copy-2.field-0 (step_of c.args.step.now) (is_kept c.args.session inputs i)
            c.in_ok-keep.ensures c.in_ok-copy-2.ensures (sym (goes inputs f).0 ∙ c.if-not-branch.false),
        (goes inputs f).1,
      ),
    )
