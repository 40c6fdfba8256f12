use Rattle.std.proofs.Common.{◌≡◌, ◌∙◌, false, length, get_or, arith, sym}
use Rattle.std.proofs.lemmas.List.Sums.{prefix_len_is}
use Rattle.bidi_cddl.specs.Bytes.{is_digit}
use Rattle.bidi_cddl.proofs.sizes.digits.Goals as goal

pub returns-then-not-is_digit-clause-size : goal.returns-then-not-is_digit-clause-size
returns-then-not-is_digit-clause-size c =
    let fails : is_digit (get_or c.args.bytes.now c.loop-i.i 0) ≡ false = sym c.is_digit.ensures ∙ c.if-not-is_digit.true in
    sym (prefix_len_is is_digit c.args.bytes.now c.loop-i.i 0 (omega arith) c.loop-i.invariant (λ _. fails))

pub returns-clause-size : goal.returns-clause-size
returns-clause-size c =
    sym (prefix_len_is is_digit c.args.bytes.now (length c.args.bytes.now) 0 (omega arith) (λ k h. c.loop-i.invariant k (omega arith)) (λ h. absurd (omega arith)))
