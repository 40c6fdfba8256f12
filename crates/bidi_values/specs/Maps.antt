-- The map that the constructor of a reference asks an earlier alternative about, of its parts and of further members.
use Rattle.std.specs.Prelude.{Option, String, option_map, string_bytes, codes}
use Rattle.std.proofs.Common.{Global}
use Rattle.bidi_tree.specs.Node as tree
use Rattle.bidi_tree.specs.Node.{Node, Members, put}
use Rattle.bidi_shape.specs.Parts.{put_part}

-- the map of a `RemoteObjectReference` with these parts: `{ handle: .., ? sharedId: .., .. }`
abbrev pub remote_object_map : String Global → Option (String Global) → Members → Node
remote_object_map handle shared_id ext =
    tree.map (put (codes "handle") (tree.text (string_bytes handle))
    (put_part (codes "sharedId") (option_map (λ s. tree.text (string_bytes s)) shared_id) ext))
