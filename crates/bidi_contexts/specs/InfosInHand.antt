-- What contracts see of the Infos that the code has: the tree of a list of them, and how many levels they have.
use Rattle.std.specs.Prelude.{◌≤◌, ℕ, List, map, Option, Some, None, ⊤, Vec, String, string_bytes}
use Rattle.std.specs.declared.alloc.Global.{Global}
use Rattle.std.specs.List.{AllByRecursion}
use Rattle.bidi_tree.specs.Node.{Node, null, text, levels}
use Rattle.bidi_shape.specs.Value.{ShapeOf}
use Rattle.bidi_params.specs.declared.browsing_context.info.Info.{Info}
use Rattle.bidi_handles.specs.Maps.{listed}

-- The list of the trees of the Infos, or null if there is no list.
abbrev pub children_node : (Info → Node) → Option (Vec Info Global) → Node
children_node tree_of None = null
children_node tree_of (Some infos) = listed (map tree_of infos.items)

-- The id of a parent, or null if there is none.
abbrev pub parent_node : Option (String Global) → Node
parent_node None = null
parent_node (Some id) = text (string_bytes id)

-- The Info is well formed, and its tree has at most n levels.
abbrev pub IsWithin : ShapeOf Info → ℕ → Info → Type 0
IsWithin shape n i = shape.well i × (levels (shape.tree_of i) ≤ n)

-- Each Info in a list is well formed and has at most n levels.
abbrev pub AreWithin : ShapeOf Info → ℕ → List Info → Type 0
AreWithin shape n infos = AllByRecursion (IsWithin shape n) infos

-- If there is a list of Infos, each is well formed and has at most n levels.
abbrev pub AreWithinIfTold : ShapeOf Info → ℕ → Option (Vec Info Global) → Type 0
AreWithinIfTold shape n None = ⊤
AreWithinIfTold shape n (Some infos) = AreWithin shape n infos.items
