-- No byte so far ends the line.
use Rattle.std.proofs.Common.{◌≡◌, ℕ, ◌<◌, get_or, true}
use Rattle.bidi_cddl.specs.Sizes.{is_in_line}
use Rattle.bidi_cddl.proofs.sizes.line_size.Given as goal

abbrev pub invariant-loop-i : goal.invariant-loop-i
invariant-loop-i l = (k : ℕ) → k < l.i → is_in_line (get_or l.bytes k 0) ≡ true
