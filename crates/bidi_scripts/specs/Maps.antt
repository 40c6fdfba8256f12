-- The map that the constructor of a target asks an earlier alternative about, of its parts and of further members.
use Rattle.std.specs.Prelude.{String, string_bytes, codes}
use Rattle.std.proofs.Common.{Global}
use Rattle.bidi_tree.specs.Node as tree
use Rattle.bidi_tree.specs.Node.{Node, Members, put}

-- the map of a `RealmTarget` with these parts: `{ realm: .., .. }`
-- example: `{"realm":"r","context":"c"}`, which fits ContextTarget
abbrev pub realm_map : String Global → Members → Node
realm_map realm ext = tree.map (put (codes "realm") (tree.text (string_bytes realm)) ext)
