-- The tree of an `Outline`. Defined by this project.
use Rattle.std.specs.Prelude.{List, [], ◌∷◌, map}
use Rattle.bidi_tree.specs.Named.{Name, Named}
use Rattle.bidi_tree.specs.Node as tree
use Rattle.bidi_tree.specs.Node.{Node, Items, Members, no_members, member}
use Rattle.bidi_tree.specs.View.{items_of}
use Rattle.bidi_tree.specs.declared.outline.Outline.{Outline, fold-Outline}
use Rattle.bidi_tree.specs.declared.outline.Outline.TheOpen.{Outline-F}

-- the members with these names and trees, in the order of the list
abbrev pub named : List (Name × Node) → Members
named [] = no_members
named (m ∷ ms) = member m.0.now m.1 (named ms)

-- the tree of an outline whose inner outlines are given by their trees
abbrev pub outline_step : Outline-F Node → Node
outline_step Outline-F.Null = tree.null
outline_step (Outline-F.Bool b) = tree.boolean b
outline_step (Outline-F.Int z) = tree.whole z.value
outline_step Outline-F.Odd = tree.odd
outline_step (Outline-F.Text s) = tree.text s.now
outline_step (Outline-F.List v) = tree.list (items_of v.items)
outline_step (Outline-F.Map ms) = tree.map (named ms.entries.items)

-- the tree of an outline
abbrev pub outline_node : Outline → Node
outline_node = fold-Outline Node outline_step

-- the trees of some outlines, as the items of an array
abbrev pub outline_items : List Outline → Items
outline_items ds = items_of (map outline_node ds)

-- the members with these names and the trees of these outlines, in the order of the list
abbrev pub named_outlines : List (Name × Outline) → Members
named_outlines ms = named (map (λ m. (m.0, outline_node m.1)) ms)

-- the members of an object's outline, as those of its tree
abbrev pub outline_members : Named Outline → Members
outline_members ms = named_outlines ms.entries.items
