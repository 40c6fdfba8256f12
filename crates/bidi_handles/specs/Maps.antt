-- A notation for trees: `mapped ("name" being t and ..)` is an object, with its members in any order. Defined by this project.
use Prim.Native.String.{String}
use Rattle.std.specs.Prelude.{ℕ, pos, List, codes}
use Rattle.bidi_tree.specs.Node.{Node, whole, text, list, map, Members, no_members, put}
use Rattle.bidi_tree.specs.View.{items_of}
use Rattle.bidi_handles.specs.declared.id.IdKind.{IdKind}
use Rattle.bidi_handles.specs.Ids.{id_of}

infixr 3 ◌being◌and◌
-- these members and one more
abbrev pub ◌being◌and◌ : String → Node → Members → Members
◌being◌and◌ name t ms = put (codes name) t ms

-- the object `{ .. }` of these members
-- example: `mapped ("type" being word "window" and no_members)`
abbrev pub mapped : Members → Node
mapped ms = map ms

-- the array `[t, ..]` of these trees
abbrev pub listed : List Node → Node
listed ts = list (items_of ts)

-- the empty object, `{}`
abbrev pub nothing : Node
nothing = map no_members

-- the string `"word"`
abbrev pub word : String → Node
word s = text (codes s)

-- a number from 0 on
abbrev pub number : ℕ → Node
number n = whole (pos n)

-- the id of the n-th thing of a kind, as a string
abbrev pub id_tree : IdKind → ℕ → Node
id_tree kind n = text (id_of kind n)
