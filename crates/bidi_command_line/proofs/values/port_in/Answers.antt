use Rattle.std.proofs.Common.{◌≡◌, ◌≤◌, true, Some, None, sym, ap, arith, ◌∙◌}
use Rattle.std.specs.Prelude.{◌&&◌, nat_le, if◌then◌else◌}
use Rattle.std.proofs.lemmas.Bool.Decides.{nat_tests}
use Rattle.bidi_command_line.proofs.NumberLemmas.{number-parsed, number-refused}
use Rattle.bidi_command_line.proofs.values.port_in.Goals as goal

pub returns-in-Err : goal.returns-in-Err
returns-in-Err c = sym (number-refused 16 0 65535 c.args.text.now c.parse.result c.in-Err.field-0 c.in-Err.is (omega arith) c.parse.ensures.value.0)

pub returns-in-Ok : goal.returns-in-Ok
returns-in-Ok c =
    let most : c.in-Ok.port ≤ 65535 = omega (arith, c.in-Ok.ensures.value) in
    let within : (nat_le 0 c.in-Ok.port && nat_le c.in-Ok.port 65535) ≡ true = grind (arith, nat_tests, most) in
    sym (number-parsed 16 0 65535 c.in-Ok.port c.args.text.now c.parse.result c.in-Ok.is c.parse.ensures.value.0
    ∙ ap (λ b. if b then Some c.in-Ok.port else None) within)
