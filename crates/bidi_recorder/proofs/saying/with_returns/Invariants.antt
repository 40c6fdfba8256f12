use Rattle.std.proofs.Common.{◌≡◌, flat_map, encode_utf8, string_bytes}
use Rattle.bidi_recorder.specs.OneLine.{return_for}
use Rattle.bidi_recorder.proofs.saying.with_returns.Given as goal

abbrev pub invariant-loop-letter : goal.invariant-loop-letter
invariant-loop-letter l = string_bytes l.said ≡ flat_map (λ c. encode_utf8 (return_for c)) l.yielded
