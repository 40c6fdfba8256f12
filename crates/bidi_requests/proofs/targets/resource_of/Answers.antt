use Rattle.std.proofs.Common.{rules, ◌≡◌, ◌∙◌, ap, arith, drop, length, min}
use Rattle.std.proofs.lemmas.List.{drop_min}
use Rattle.bidi_requests.specs.Targets.{after_authority}
use Rattle.bidi_requests.proofs.TargetLemmas.{absolute-is, written-is}
use Rattle.bidi_requests.proofs.targets.resource_of.Goals as goal

pub returns-then-is_absolute : goal.returns-then-is_absolute
returns-then-is_absolute c =
    let t = c.args.target.now in
    let count : c.min.result ≡ min 7 (length t) = omega (arith, c.min.ensures) in
    absolute-is t c.after_authority.result.now (search rules)
    (c.after_authority.ensures ∙ ap after_authority (c.split_at.ensures.back ∙ ap (λ n. drop n t) count ∙ drop_min 7 t))

pub returns-else-is_absolute : goal.returns-else-is_absolute
returns-else-is_absolute c = written-is c.args.target.now (search rules)
