use Rattle.std.proofs.Common.{◌≡◌, ◌++◌, map, drop, string_bytes}
use Rattle.bidi_blame.specs.Said.{said_text}
use Rattle.bidi_blame.specs.Words.{choice_text, or_each}
use Rattle.bidi_blame.proofs.wanting.choice.Given as goal

abbrev pub invariant-loop-words : goal.invariant-loop-words
invariant-loop-words l =
    string_bytes l.text ++ or_each (map said_text (drop l.words-index l.rest)) ≡ choice_text (map said_text l.told)
