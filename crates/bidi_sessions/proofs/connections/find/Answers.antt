use Rattle.std.proofs.Common.{◌≡◌, ◌∙◌, true, false, Some, refl, sym, ap, arith}
use Rattle.std.specs.Prelude.{◌==◌}
use Rattle.std.proofs.lemmas.Bool.Decides.{nat_tests}
use Rattle.bidi_sessions.proofs.FindLemmas.{find-next, find-here, find-end}
use Rattle.bidi_sessions.proofs.connections.find.Goals as goal

pub loop-connection-init : goal.loop-connection-init
loop-connection-init c = refl

pub returns-then-connection-number : goal.returns-then-connection-number
returns-then-connection-number c =
    let n = c.args.number.value in
    let same = c.if-connection-number.true in
    let passes : (c.connection-item.result.number.value == n) ≡ true = grind (arith, nat_tests, same) in
    ap Some c.connection-item.is
    ∙ (sym (find-here (λ x. x.number.value == n) c.args.connections.now c.loop-connection.connection-index c.connection-item.result c.loop-connection-test.true
    (ap (λ x. x.number.value == n) (sym c.connection-item.is) ∙ passes)) ∙ c.loop-connection.invariant)

pub loop-connection-preserved : goal.loop-connection-preserved
loop-connection-preserved c =
    let n = c.args.number.value in
    let other = c.if-connection-number.false in
    let fails : (c.connection-item.result.number.value == n) ≡ false = grind (arith, nat_tests, other) in
    sym (find-next (λ x. x.number.value == n) c.args.connections.now c.loop-connection.connection-index c.connection-item.result c.loop-connection-test.true
    (ap (λ x. x.number.value == n) (sym c.connection-item.is) ∙ fails)) ∙ c.loop-connection.invariant

pub returns : goal.returns
returns c =
    sym (find-end (λ x. x.number.value == c.args.number.value) c.args.connections.now c.loop-connection.connection-index (omega arith))
    ∙ c.loop-connection.invariant
