use Rattle.std.proofs.Common.{◌≡◌, ◌++◌, map, drop, string_bytes}
use Rattle.bidi_grammar.specs.Words.{choice_text, or_each}
use Rattle.bidi_grammar.proofs.wanting.choice.Given as goal

abbrev pub invariant-loop-words : goal.invariant-loop-words
invariant-loop-words l = string_bytes l.text ++ or_each (map string_bytes (drop l.words-index l.rest)) ≡ choice_text (map string_bytes l.told)
