-- The map that a constructor of the session module asks an earlier alternative about, of its parts and of further members.
use Rattle.std.specs.Prelude.{List, String, string_bytes, codes}
use Rattle.std.proofs.Common.{Global}
use Rattle.bidi_tree.specs.Node as tree
use Rattle.bidi_tree.specs.Node.{Node, Members, put}
use Rattle.bidi_shape.specs.ListLaws.{list_tree}

-- the map of an `UnsubscribeByEvents` with these parts: `{ events: [..], .. }`
-- example: `{"events":["b"],"subscriptions":["a"]}`, which fits UnsubscribeById
abbrev pub by_events_map : List (String Global) → Members → Node
by_events_map events ext = tree.map (put (codes "events") (list_tree (λ s. tree.text (string_bytes s)) events) ext)
