use Rattle.std.proofs.Common.{◌≡◌, ◌++◌, flat_map, encode_utf8, string_bytes}
use Rattle.bidi_grammar.specs.Words.{escaped}
use Rattle.bidi_grammar.proofs.words.push_name.Given as goal

abbrev pub invariant-loop-letter : goal.invariant-loop-letter
invariant-loop-letter l = string_bytes l.text ≡ string_bytes l.fn.text ++ flat_map (λ c. escaped (encode_utf8 c)) l.yielded
