-- What holds a list of values, and what holds a list of pairs: the texts of both.
-- After WebDriver BiDi, "The script.LocalValue Type" and "The script.RemoteValue Type".
use Rattle.std.specs.Prelude.{◌≡◌, ℕ, List, [], ◌∷◌, Some, codes, refl}
use Rattle.bidi_shape.specs.Term.{Term, ◌or◌, the}
use Rattle.bidi_shape.specs.WordLaws.{Words, word, value_named}
use Rattle.bidi_values.specs.declared.kinds.ListKind.{ListKind}
use Rattle.bidi_values.specs.declared.kinds.ListKind.TheVariants.{Array, Set}
use Rattle.bidi_values.specs.declared.kinds.PairsKind.{PairsKind}
use Rattle.bidi_values.specs.declared.kinds.PairsKind.TheVariants.{Map, Object}

-- ---- lists of values

-- the term of `type` in a map that holds a list of values
abbrev pub list_kind : Term
list_kind = the "array" or the "set"

-- the string of each kind of list
abbrev pub list_text : ListKind → List ℕ
list_text Array = codes "array"
list_text Set = codes "set"

-- the string of each kind of list names that kind
pub list_named : (k : ListKind) → value_named (word list_text Array) (word list_text Set ∷ []) (list_text k) ≡ Some k
list_named Array = refl
list_named Set = refl

-- the kinds of lists as a table of their strings
abbrev pub list_words : Words ListKind
list_words = record {
  rule = list_kind;
  first = word list_text Array;
  rest = word list_text Set ∷ [];
  text_of = list_text;
  is_rule = refl;
  has_texts = (refl, refl);
  names_it = list_named;
}

-- ---- lists of pairs

-- the term of `type` in a map that holds a list of pairs
abbrev pub pairs_kind : Term
pairs_kind = the "object" or the "map"

-- the string of each kind of pairs
abbrev pub pairs_text : PairsKind → List ℕ
pairs_text Object = codes "object"
pairs_text Map = codes "map"

-- the string of each kind of pairs names that kind
pub pairs_named : (k : PairsKind) → value_named (word pairs_text Object) (word pairs_text Map ∷ []) (pairs_text k) ≡ Some k
pairs_named Object = refl
pairs_named Map = refl

-- the kinds of pairs as a table of their strings
abbrev pub pairs_words : Words PairsKind
pairs_words = record {
  rule = pairs_kind;
  first = word pairs_text Object;
  rest = word pairs_text Map ∷ [];
  text_of = pairs_text;
  is_rule = refl;
  has_texts = (refl, refl);
  names_it = pairs_named;
}
