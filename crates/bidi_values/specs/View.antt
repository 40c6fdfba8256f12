-- Values, pairs and keys of Rust by what they hold: their trees, and when their parts are well.
use Rattle.bidi_tree.specs.Node.{Node}
use Rattle.bidi_values.specs.Content.{content, key_content, pair_content}
use Rattle.bidi_values.specs.NestedLaws.{NestingOf, value_tree, a_pair_tree, key_tree, PartsAreWell, PairIsWell, KeyIsWell}
use Rattle.bidi_values.specs.declared.nested.Nested.{Nested}
use Rattle.bidi_values.specs.declared.nested.NestedPair.{NestedPair}
use Rattle.bidi_values.specs.declared.nested.NestedKey.{NestedKey}

-- the tree of a `Nested` of the code
abbrev pub nested_tree : {P L M : Type 0} → NestingOf P L M → Nested P L M → Node
nested_tree n v = value_tree n (content v)

-- the tree of a `NestedPair` of the code
abbrev pub nested_pair_tree : {P L M : Type 0} → NestingOf P L M → NestedPair P L M → Node
nested_pair_tree n p = a_pair_tree n (pair_content p)

-- the tree of a `NestedKey` of the code
abbrev pub nested_key_tree : {P L M : Type 0} → NestingOf P L M → NestedKey P L M → Node
nested_key_tree n k = key_tree n (key_content k)

-- the parts of a `Nested` of the code are well-formed
abbrev pub NestedIsWell : {P L M : Type 0} → NestingOf P L M → Nested P L M → Type 0
NestedIsWell n v = PartsAreWell n (content v)

-- the parts of a `NestedPair` of the code are well-formed
abbrev pub NestedPairIsWell : {P L M : Type 0} → NestingOf P L M → NestedPair P L M → Type 0
NestedPairIsWell n p = PairIsWell n (pair_content p)

-- the parts of a `NestedKey` of the code are well-formed
abbrev pub NestedKeyIsWell : {P L M : Type 0} → NestingOf P L M → NestedKey P L M → Type 0
NestedKeyIsWell n k = KeyIsWell n (key_content k)
