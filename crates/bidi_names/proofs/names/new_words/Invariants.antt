use Rattle.std.proofs.Common.{◌≡◌, ◌++◌, map, drop, string_bytes}
use Rattle.bidi_names.specs.Names.{new_words}
use Rattle.bidi_names.proofs.names.new_words.Given as goal

-- the new words of all are those so far with those of the rest
abbrev pub invariant-loop-word : goal.invariant-loop-word
invariant-loop-word l = new_words (map string_bytes l.known) (map string_bytes l.words)
    ≡ map string_bytes l.new.items ++ new_words (map string_bytes l.known ++ map string_bytes l.new.items) (map string_bytes (drop l.word-index l.words))
