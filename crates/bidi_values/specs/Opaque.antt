-- The texts of the opaque types. After WebDriver BiDi, "The script.RemoteValue Type".
use Rattle.std.specs.Prelude.{◌≡◌, ℕ, List, [], ◌∷◌, Some, codes, refl}
use Rattle.bidi_shape.specs.Name as name
use Rattle.bidi_shape.specs.Term.{rule}
use Rattle.bidi_shape.specs.WordLaws.{Word, Words, word, value_named}
use Rattle.bidi_values.specs.declared.opaque.Opaque.{Opaque}
use Rattle.bidi_values.specs.declared.opaque.Opaque.TheVariants.{Symbol, Function, WeakMap, WeakSet, Generator, Error, Proxy, Promise, TypedArray, ArrayBuffer}

-- the string of each opaque type
abbrev pub opaque_text : Opaque → List ℕ
opaque_text Symbol = codes "symbol"
opaque_text Function = codes "function"
opaque_text WeakMap = codes "weakmap"
opaque_text WeakSet = codes "weakset"
opaque_text Generator = codes "generator"
opaque_text Error = codes "error"
opaque_text Proxy = codes "proxy"
opaque_text Promise = codes "promise"
opaque_text TypedArray = codes "typedarray"
opaque_text ArrayBuffer = codes "arraybuffer"

-- the opaque types after the first, each with its string
abbrev pub opaque_rest : List (Word Opaque)
opaque_rest =
    word opaque_text Function ∷ word opaque_text WeakMap ∷ word opaque_text WeakSet ∷ word opaque_text Generator ∷ word opaque_text Error
    ∷ word opaque_text Proxy ∷ word opaque_text Promise ∷ word opaque_text TypedArray ∷ word opaque_text ArrayBuffer ∷ []

-- the string of each opaque type names it
pub opaque_named : (v : Opaque) → value_named (word opaque_text Symbol) opaque_rest (opaque_text v) ≡ Some v
opaque_named Symbol = refl
opaque_named Function = refl
opaque_named WeakMap = refl
opaque_named WeakSet = refl
opaque_named Generator = refl
opaque_named Error = refl
opaque_named Proxy = refl
opaque_named Promise = refl
opaque_named TypedArray = refl
opaque_named ArrayBuffer = refl

-- the opaque types as a table of their strings
abbrev pub opaque_words : Words Opaque
opaque_words = record {
  rule = rule name.opaque;
  first = word opaque_text Symbol;
  rest = opaque_rest;
  text_of = opaque_text;
  is_rule = refl;
  has_texts = (refl, (refl, (refl, (refl, (refl, (refl, (refl, (refl, (refl, refl)))))))));
  names_it = opaque_named;
}
