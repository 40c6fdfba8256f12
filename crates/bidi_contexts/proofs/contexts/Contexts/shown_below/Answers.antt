use Rattle.std.proofs.Common.{◌≡◌, ◌∙◌, Some, ap, arith}
use Rattle.bidi_contexts.proofs.contexts.Contexts.shown_below.Goals as goal

pub returns-in-Some-eq0 : goal.returns-in-Some-eq0
returns-in-Some-eq0 c = λ past k table row deep.
    let zero : c.in-Some-eq0.field-0 ≡ 0 = omega (arith, c.in-Some-eq0.field-0-test) in
    absurd (deep (c.in-Some-eq0.is ∙ ap Some zero))

pub returns-in_default : goal.returns-in_default
returns-in_default c = λ past k table row deep. c.below.ensures past k table row
