-- What is left of the text decides from here on.
use Rattle.std.proofs.Common.{◌≡◌, ◌+◌, drop}
use Rattle.bidi_syntax.specs.Surrogates.{lone_from, lone_surrogate}
use Rattle.bidi_syntax.proofs.surrogates.lone_surrogate.Given as goal

abbrev pub invariant-loop-place : goal.invariant-loop-place
invariant-loop-place l = lone_from (l.place + 1) l.left (drop l.place l.text) ≡ lone_surrogate l.text
