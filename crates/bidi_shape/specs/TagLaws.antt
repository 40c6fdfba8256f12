-- Closed objects that their `type` tells apart: their terms and their trees. After RFC 8610, 3.5.
use Rattle.std.specs.Prelude.{ℕ, List, codes}
use Rattle.bidi_tree.specs.Node as tree
use Rattle.bidi_tree.specs.Node.{Node, no_members, put}
use Rattle.bidi_shape.specs.Term.{Term, required, exactly, no_more, row, closed_map}
use Rattle.bidi_shape.specs.declared.tagged.Bare.{Bare}
use Rattle.bidi_shape.specs.declared.tagged.Typed.{Typed}

-- the term `{ type: "T" }`
abbrev pub bare_term : List ℕ → Term
bare_term tag = closed_map (row (codes "type") required (exactly tag) no_more)

-- the term `{ type: "T", value: X }`
-- example: `{"type":"bigint","value":"1"}` fits it for `bigint` and text
abbrev pub typed_term : List ℕ → Term → Term
typed_term tag τ = closed_map (row (codes "type") required (exactly tag) (row (codes "value") required τ no_more))

-- the object that has only this type
abbrev pub bare_tree : List ℕ → Node
bare_tree tag = tree.map (put (codes "type") (tree.text tag) no_members)

-- the object that has this type and this value
abbrev pub typed_tree : List ℕ → Node → Node
typed_tree tag t = tree.map (put (codes "type") (tree.text tag) (put (codes "value") t no_members))

-- the value of the code for an object that has only a type
abbrev pub bare : {T : Type 0} → Bare T
bare = record { of = record {} }

-- the value of the code for an object with a type and a value
abbrev pub typed : {T X : Type 0} → X → Typed T X
typed x = record { value = x; of = record {} }
