use Rattle.std.proofs.Common.{◌≡◌, ◌+◌, ◌*◌, take, map}
use Rattle.std.specs.List.{AllByRecursion}
use Rattle.bidi_tree.specs.Node.{levels, items_levels}
use Rattle.bidi_tree.specs.View.{items_of}
use Rattle.bidi_values.specs.View.{nested_tree, nested_pair_tree, NestedIsWell, NestedPairIsWell}
use Rattle.bidi_values.proofs.reading.+read.Given as goal

abbrev pub decreases-read_value : goal.decreases-read_value
decreases-read_value g l = 2 * levels (g.S.Parsed.tree l.tree.now) + 1

abbrev pub decreases-read_values : goal.decreases-read_values
decreases-read_values g l = 2 * items_levels (items_of (map g.S.Parsed.tree l.items.now)) + 2

abbrev pub decreases-read_pairs : goal.decreases-read_pairs
decreases-read_pairs g l = 2 * items_levels (items_of (map g.S.Parsed.tree l.items.now)) + 2

abbrev pub decreases-read_pair : goal.decreases-read_pair
decreases-read_pair g l = 2 * levels (g.S.Parsed.tree l.tree.now) + 1

abbrev pub decreases-read_key : goal.decreases-read_key
decreases-read_key g l = 2 * levels (g.S.Parsed.tree l.tree.now) + 2

abbrev pub invariant-read_values-loop-item : goal.invariant-read_values-loop-item
invariant-read_values-loop-item g l = (map (nested_tree g.P.Nests.nesting) l.values.items ≡ map g.S.Parsed.tree (take l.item-index l.items))
    × AllByRecursion (NestedIsWell g.P.Nests.nesting) l.values.items

abbrev pub invariant-read_pairs-loop-item : goal.invariant-read_pairs-loop-item
invariant-read_pairs-loop-item g l = (map (nested_pair_tree g.P.Nests.nesting) l.pairs.items ≡ map g.S.Parsed.tree (take l.item-index l.items))
    × AllByRecursion (NestedPairIsWell g.P.Nests.nesting) l.pairs.items
