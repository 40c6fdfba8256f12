-- What is left of the name decides from here on, and the last byte of what is sure to belong to it is ASCII.
use Rattle.std.proofs.Common.{◌≡◌, ℕ, ◌<◌, ◌≤◌, ◌+◌, get_or, drop}
use Rattle.bidi_cddl.specs.Sizes.{name_rest, name_size}
use Rattle.bidi_cddl.proofs.SizeLemmas.{sure_or}
use Rattle.bidi_cddl.proofs.sizes.name_size.Given as goal

abbrev pub invariant-loop-i : goal.invariant-loop-i
invariant-loop-i l = record {
  whole : sure_or l.size l.i (name_rest l.dot (drop l.i l.bytes)) ≡ name_size l.bytes;
  within : l.size ≤ l.i;
  ascii : (k : ℕ) → k + 1 ≡ l.size → get_or l.bytes k 0 < 128;
}
