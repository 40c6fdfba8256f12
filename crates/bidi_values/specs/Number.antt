-- The values of a number: their terms, which the rule of primitive values has as they stand, and the texts of the special ones.
-- After WebDriver BiDi, "The script.PrimitiveProtocolValue Type".
use Rattle.std.specs.Prelude.{◌≡◌, ℕ, List, [], ◌∷◌, Some, codes, refl}
use Rattle.bidi_shape.specs.Term.{Term, js_int, ◌or◌, the}
use Rattle.bidi_shape.specs.WordLaws.{Word, Words, word, value_named}
use Rattle.bidi_values.specs.declared.primitive.SpecialNumber.{SpecialNumber}
use Rattle.bidi_values.specs.declared.primitive.SpecialNumber.TheVariants.{NaN, NegativeZero, Infinity, NegativeInfinity}

-- the term of a number that JSON does not have, or whose sign it would lose
-- example: `"-0"` is one, `0` is not
abbrev pub special_number : Term
special_number = the "NaN" or the "-0" or the "Infinity" or the "-Infinity"

-- the term of a number: a whole number, or one of these four strings
abbrev pub number : Term
number = js_int or special_number

-- the string of each special number
abbrev pub special_number_text : SpecialNumber → List ℕ
special_number_text NaN = codes "NaN"
special_number_text NegativeZero = codes "-0"
special_number_text Infinity = codes "Infinity"
special_number_text NegativeInfinity = codes "-Infinity"

-- the special numbers after the first, each with its string
abbrev pub special_number_rest : List (Word SpecialNumber)
special_number_rest =
    word special_number_text NegativeZero ∷ word special_number_text Infinity ∷ word special_number_text NegativeInfinity ∷ []

-- the string of each special number names it
pub special_number_named : (v : SpecialNumber) → value_named (word special_number_text NaN) special_number_rest (special_number_text v) ≡ Some v
special_number_named NaN = refl
special_number_named NegativeZero = refl
special_number_named Infinity = refl
special_number_named NegativeInfinity = refl

-- the special numbers as a table of their strings
abbrev pub special_number_words : Words SpecialNumber
special_number_words = record {
  rule = special_number;
  first = word special_number_text NaN;
  rest = special_number_rest;
  text_of = special_number_text;
  is_rule = refl;
  has_texts = (refl, (refl, (refl, refl)));
  names_it = special_number_named;
}
