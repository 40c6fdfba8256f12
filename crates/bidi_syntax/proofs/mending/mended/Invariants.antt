-- What was written stands before what is to be written of the bytes that are left.
use Rattle.std.proofs.Common.{◌≡◌, ◌++◌, drop}
use Rattle.bidi_syntax.specs.Surrogates.{mended, mended_from}
use Rattle.bidi_syntax.proofs.mending.mended.Given as goal

abbrev pub invariant-loop-place : goal.invariant-loop-place
invariant-loop-place l = l.bytes.items ++ mended_from l.replaces l.left (drop l.place l.text) ≡ mended l.text
