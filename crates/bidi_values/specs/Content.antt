-- What a value that may hold others is, whatever room it takes.
use Rattle.std.specs.Prelude.{ℕ, List, [], ◌∷◌, string_bytes}
use Rattle.std.proofs.Common.{◌≡◌, String, Global, Vec, map, rules}
use Rattle.bidi_values.specs.declared.nested.Nested.{Nested, Nested-F, fold-Nested, Plain, List as ListOf, Pairs as PairsOf, the_lemmas}
use Rattle.bidi_values.specs.declared.nested.NestedPair.{NestedPair, NestedPair-F, fold-NestedPair}
use Rattle.bidi_values.specs.declared.nested.NestedKey.{NestedKey, NestedKey-F, fold-NestedKey, Value as ValueOf, Text as TextOf}

mutual
  -- a plain value, or a list of values or of pairs with the members beside that list
  pub data Content (P L M : Type 0) : Type 0 where
    plain : P → Content P L M
    list : L → Contents P L M → Content P L M
    pairs : M → Pairs P L M → Content P L M

  -- a list of values
  pub data Contents (P L M : Type 0) : Type 0 where
    no_values : Contents P L M
    value : Content P L M → Contents P L M → Contents P L M

  -- a list of pairs of a key and a value
  pub data Pairs (P L M : Type 0) : Type 0 where
    no_pairs : Pairs P L M
    pair : Key P L M → Content P L M → Pairs P L M → Pairs P L M

  -- a key, which is a value or a string
  pub data Key (P L M : Type 0) : Type 0 where
    value_key : Content P L M → Key P L M
    text_key : List ℕ → Key P L M

-- the list of values with these items
abbrev pub contents_of : {P L M : Type 0} → List (Content P L M) → Contents P L M
contents_of [] = no_values
contents_of (v ∷ vs) = value v (contents_of vs)

-- the list of pairs with these items
abbrev pub pairs_of : {P L M : Type 0} → List (Key P L M × Content P L M) → Pairs P L M
pairs_of [] = no_pairs
pairs_of (p ∷ ps) = pair p.0 p.1 (pairs_of ps)

-- the content of a key, from the content of the value in it
abbrev pub key_step : {P L M : Type 0} → NestedKey-F P L M (Content P L M) (Key P L M) (Key P L M × Content P L M) → Key P L M
key_step (NestedKey-F.Value v) = value_key v
key_step (NestedKey-F.Text s) = text_key (string_bytes s)

-- the content of a value, from the contents of the values and pairs in it
abbrev pub value_step : {P L M : Type 0} → Nested-F P L M (Content P L M) (Key P L M) (Key P L M × Content P L M) → Content P L M
value_step (Nested-F.Plain p) = plain p
value_step (Nested-F.List l vs) = list l (contents_of vs.items)
value_step (Nested-F.Pairs m ps) = pairs m (pairs_of ps.items)

-- the content of a pair, from the contents of its key and its value
abbrev pub pair_step : {P L M : Type 0} → NestedPair-F P L M (Content P L M) (Key P L M) (Key P L M × Content P L M) → Key P L M × Content P L M
pair_step p = (p.key, p.value)

-- the content of a `Nested` of the code
abbrev pub content : {P L M : Type 0} → Nested P L M → Content P L M
content {P} {L} {M} = fold-Nested P L M (Content P L M) (Key P L M) (Key P L M × Content P L M) value_step key_step pair_step

-- the content of a `NestedKey` of the code
abbrev pub key_content : {P L M : Type 0} → NestedKey P L M → Key P L M
key_content {P} {L} {M} = fold-NestedKey P L M (Content P L M) (Key P L M) (Key P L M × Content P L M) value_step key_step pair_step

-- the content of a `NestedPair` of the code
abbrev pub pair_content : {P L M : Type 0} → NestedPair P L M → Key P L M × Content P L M
pair_content {P} {L} {M} = fold-NestedPair P L M (Content P L M) (Key P L M) (Key P L M × Content P L M) value_step key_step pair_step

-- ---- level by level

-- the content of a plain value is that plain value
pub content-Plain : {P L M : Type 0} (p : P) → content {P = P} {L = L} {M = M} (Plain p) ≡ plain p
content-Plain p = search (rules, the_lemmas)

-- the content of a list of values has the contents of its items
pub content-List : {P L M : Type 0} (l : L) (vs : Vec (Nested P L M) Global) → content (ListOf l vs) ≡ list l (contents_of (map content vs.items))
content-List l vs = search (rules, the_lemmas)

-- the content of a list of pairs has the contents of its pairs
pub content-Pairs : {P L M : Type 0} (m : M) (ps : Vec (NestedPair P L M) Global) → content (PairsOf m ps) ≡ pairs m (pairs_of (map pair_content ps.items))
content-Pairs m ps = search (rules, the_lemmas)

-- the content of a key that is a value has the content of that value
pub key_content-Value : {P L M : Type 0} (v : Nested P L M) → key_content (ValueOf v) ≡ value_key (content v)
key_content-Value v = search (rules, the_lemmas)

-- the content of a key that is a string is that string
pub key_content-Text : {P L M : Type 0} (s : String Global) → key_content {P = P} {L = L} {M = M} (TextOf s) ≡ text_key (string_bytes s)
key_content-Text s = search (rules, the_lemmas)
