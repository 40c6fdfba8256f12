-- The levels of log entries: their term, which the rules of the entries have as it stands, and their texts.
-- After WebDriver BiDi, "The log.LogEntry Type".
use Rattle.std.specs.Prelude.{◌≡◌, ℕ, List, [], ◌∷◌, Some, codes, refl}
use Rattle.bidi_shape.specs.Term.{Term, ◌or◌, the}
use Rattle.bidi_shape.specs.WordLaws.{Word, Words, word, value_named}
use Rattle.bidi_scripts.specs.declared.log_entry.Level.{Level}
use Rattle.bidi_scripts.specs.declared.log_entry.Level.TheVariants.{Debug, Info, Warn, Error}

-- the term of a level
abbrev pub level : Term
level = the "debug" or the "info" or the "warn" or the "error"

-- the string of each level
abbrev pub level_text : Level → List ℕ
level_text Debug = codes "debug"
level_text Info = codes "info"
level_text Warn = codes "warn"
level_text Error = codes "error"

-- the levels after the first, each with its string
abbrev pub level_rest : List (Word Level)
level_rest =
    word level_text Info ∷ word level_text Warn ∷ word level_text Error ∷ []

-- the string of each level names it
pub level_named : (v : Level) → value_named (word level_text Debug) level_rest (level_text v) ≡ Some v
level_named Debug = refl
level_named Info = refl
level_named Warn = refl
level_named Error = refl

-- the levels as a table of their strings
abbrev pub level_words : Words Level
level_words = record {
  rule = level;
  first = word level_text Debug;
  rest = level_rest;
  text_of = level_text;
  is_rule = refl;
  has_texts = (refl, (refl, (refl, refl)));
  names_it = level_named;
}
