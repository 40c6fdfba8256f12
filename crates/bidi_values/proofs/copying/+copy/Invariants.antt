use Rattle.std.proofs.Common.{◌≡◌, take, map}
use Rattle.std.specs.List.{AllByRecursion}
use Rattle.bidi_values.specs.View.{nested_tree, nested_pair_tree, NestedIsWell, NestedPairIsWell}
use Rattle.bidi_values.proofs.copying.+copy.Given as goal

abbrev pub invariant-copy_values-loop-value : goal.invariant-copy_values-loop-value
invariant-copy_values-loop-value g l =
    (map (nested_tree g.P.Nests.nesting) l.copies.items ≡ map (nested_tree g.P.Nests.nesting) (take l.value-index l.value-items))
    × AllByRecursion (NestedIsWell g.P.Nests.nesting) l.copies.items

abbrev pub invariant-copy_pairs-loop-pair : goal.invariant-copy_pairs-loop-pair
invariant-copy_pairs-loop-pair g l =
    (map (nested_pair_tree g.P.Nests.nesting) l.copies.items ≡ map (nested_pair_tree g.P.Nests.nesting) (take l.pair-index l.pair-items))
    × AllByRecursion (NestedPairIsWell g.P.Nests.nesting) l.copies.items
