-- Whether the handle of a result is kept: each value's text, and the table of them. After WebDriver BiDi, "The script.ResultOwnership Type".
use Rattle.std.specs.Prelude.{◌≡◌, ℕ, List, [], ◌∷◌, Some, codes, refl}
use Rattle.bidi_shape.specs.Name as name
use Rattle.bidi_shape.specs.Term.{rule}
use Rattle.bidi_shape.specs.WordLaws.{Words, word, value_named}
use Rattle.bidi_scripts.specs.declared.evaluate.Ownership.{Ownership}
use Rattle.bidi_scripts.specs.declared.evaluate.Ownership.TheVariants.{Root, None as Unowned}

-- the string of each ownership
abbrev pub ownership_text : Ownership → List ℕ
ownership_text Root = codes "root"
ownership_text Unowned = codes "none"

-- the string of each ownership names it
pub ownership_named : (v : Ownership) → value_named (word ownership_text Root) (word ownership_text Unowned ∷ []) (ownership_text v) ≡ Some v
ownership_named Root = refl
ownership_named Unowned = refl

-- the ownerships as a table of their strings
abbrev pub ownership_words : Words Ownership
ownership_words = record {
  rule = rule name.ownership;
  first = word ownership_text Root;
  rest = word ownership_text Unowned ∷ [];
  text_of = ownership_text;
  is_rule = refl;
  has_texts = (refl, refl);
  names_it = ownership_named;
}
