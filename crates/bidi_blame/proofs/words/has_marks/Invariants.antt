use Rattle.std.proofs.Common.{◌≡◌, false, drop}
use Rattle.bidi_blame.specs.Words.{escaped}
use Rattle.bidi_blame.proofs.words.has_marks.Given as goal

abbrev pub invariant-loop-byte : goal.invariant-loop-byte
invariant-loop-byte l = l.has_marks ≡ false → escaped (drop l.byte-index l.name) ≡ drop l.byte-index l.name → escaped l.name ≡ l.name
