use Rattle.std.proofs.Common.{◌≡◌, take, map}
use Rattle.bidi_tree.specs.Outline.{outline_node}
use Rattle.bidi_shape.proofs.lists.outline_list.Given as goal

abbrev pub invariant-loop-item : goal.invariant-loop-item
invariant-loop-item g l = map outline_node l.outlines.items ≡ map g.X.Shape.shape.tree_of (take l.item-index l.items)
