-- What is left of the string decides from here on.
use Rattle.std.proofs.Common.{◌≡◌, ◌+◌, drop}
use Rattle.std.specs.Prelude.{option_map}
use Rattle.bidi_cddl.specs.Sizes.{string_rest, string_size}
use Rattle.bidi_cddl.proofs.sizes.string_size.Given as goal

abbrev pub invariant-loop-i : goal.invariant-loop-i
invariant-loop-i l = option_map (λ n. l.i + n) (string_rest l.escaped (drop l.i l.bytes)) ≡ string_size l.bytes
