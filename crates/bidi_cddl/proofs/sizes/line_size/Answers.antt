use Rattle.std.proofs.Common.{◌≡◌, false, length, get_or, arith, ap, sym}
use Rattle.std.proofs.lemmas.List.Sums.{prefix_len_is}
use Rattle.bidi_cddl.specs.Sizes.{is_in_line}
use Rattle.bidi_cddl.proofs.sizes.line_size.Goals as goal

pub returns-then-byte-eq10 : goal.returns-then-byte-eq10
returns-then-byte-eq10 c =
    let fails : is_in_line (get_or c.args.bytes.now c.loop-i.i 0) ≡ false = ap is_in_line c.if-byte-eq10.true in
    sym (prefix_len_is is_in_line c.args.bytes.now c.loop-i.i 0 (omega arith) c.loop-i.invariant (λ _. fails))

pub returns : goal.returns
returns c =
    sym (prefix_len_is is_in_line c.args.bytes.now (length c.args.bytes.now) 0 (omega arith) (λ k h. c.loop-i.invariant k (omega arith)) (λ h. absurd (omega arith)))
