use Rattle.std.proofs.Common.{◌≡◌, take, map}
use Rattle.bidi_tree.specs.Outline.{outline_node}
use Rattle.bidi_values.specs.View.{nested_tree, nested_pair_tree}
use Rattle.bidi_values.proofs.writing.+write.Given as goal

abbrev pub invariant-outline_values-loop-value : goal.invariant-outline_values-loop-value
invariant-outline_values-loop-value g l = map outline_node l.outlines.items ≡ map (nested_tree g.P.Nests.nesting) (take l.value-index l.value-items)

abbrev pub invariant-outline_pairs-loop-pair : goal.invariant-outline_pairs-loop-pair
invariant-outline_pairs-loop-pair g l = map outline_node l.outlines.items ≡ map (nested_pair_tree g.P.Nests.nesting) (take l.pair-index l.pair-items)
