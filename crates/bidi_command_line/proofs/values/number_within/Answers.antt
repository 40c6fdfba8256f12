use Rattle.std.proofs.Common.{◌≡◌, ◌<◌, ◌^◌, true, Some, None, sym, ap, arith, ◌∙◌}
use Rattle.std.specs.Prelude.{◌&&◌, nat_le, if◌then◌else◌}
use Rattle.std.proofs.lemmas.Bool.Decides.{nat_tests}
use Rattle.bidi_command_line.proofs.NumberLemmas.{number-parsed, number-refused}
use Rattle.bidi_command_line.proofs.values.number_within.Goals as goal

pub returns-in_default : goal.returns-in_default
returns-in_default c =
    let fits : c.args.most < 2 ^ 32 = c.ranges.most.fits in
    sym (number-refused 32 c.args.least c.args.most c.args.text.now c.parse.result c.in_default.field-0 c.in_default.is fits c.parse.ensures.value.0)

pub returns-then-number-most : goal.returns-then-number-most
returns-then-number-most c =
    let least = c.if-least-number.true in
    let most = c.if-number-most.true in
    let within : (nat_le c.args.least c.in-Ok.number && nat_le c.in-Ok.number c.args.most) ≡ true = grind (arith, nat_tests, least, most) in
    sym (number-parsed 32 c.args.least c.args.most c.in-Ok.number c.args.text.now c.parse.result c.in-Ok.is c.parse.ensures.value.0
    ∙ ap (λ b. if b then Some c.in-Ok.number else None) within)
