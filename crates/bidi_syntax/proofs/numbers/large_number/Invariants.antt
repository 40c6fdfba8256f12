-- What is left of the text decides from here on.
use Rattle.std.proofs.Common.{◌≡◌, ◌+◌, drop}
use Rattle.bidi_syntax.specs.Numbers.{large_from, large_number}
use Rattle.bidi_syntax.proofs.numbers.large_number.Given as goal

abbrev pub invariant-loop-place : goal.invariant-loop-place
invariant-loop-place l = large_from l.mode (l.place + 1) (drop l.place l.text) ≡ large_number l.text
