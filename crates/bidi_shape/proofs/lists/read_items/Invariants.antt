use Rattle.std.proofs.Common.{◌≡◌, take, map}
use Rattle.std.specs.List.{AllByRecursion}
use Rattle.bidi_shape.proofs.lists.read_items.Given as goal

abbrev pub invariant-loop-item : goal.invariant-loop-item
invariant-loop-item g l =
    (map g.X.Shape.shape.tree_of l.values.items ≡ map g.S.Parsed.tree (take l.item-index l.items))
    × AllByRecursion g.X.Shape.shape.well l.values.items
