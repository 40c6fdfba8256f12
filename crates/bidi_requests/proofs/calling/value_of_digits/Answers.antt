use Rattle.std.proofs.Common.{◌∙◌, arith, refl}
use Rattle.bidi_requests.proofs.DigitLemmas.{digit-step}
use Rattle.bidi_requests.proofs.calling.value_of_digits.Goals as goal

pub loop-digit-preserved : goal.loop-digit-preserved
loop-digit-preserved c = (
  omega (arith, c.min-value.ensures),
  c.loop-digit.invariant.1
      ∙ digit-step c.loop-digit.value c.min-value.result c.loop-digit.digit-index _ c.args.digits.now c.loop-digit-test.true refl (c.requires c.loop-digit.digit-index 0 c.loop-digit-test.true) c.min-value.ensures,
)
