use Rattle.std.proofs.Common.{◌≡◌, ◌+◌, ◌*◌, map}
use Rattle.bidi_values.specs.Cut.{cut}
use Rattle.bidi_values.specs.RemoteView.{remote_tree, remote_pair_tree}
use Rattle.bidi_values.proofs.CutLemmas.{partly}
use Rattle.bidi_values.proofs.cut.+cut.Given as goal

-- what a value holds is cut one level less deep
abbrev pub decreases-cut_value : goal.decreases-cut_value
decreases-cut_value l = 4 * l.depth

abbrev pub decreases-cut_values : goal.decreases-cut_values
decreases-cut_values l = 4 * l.depth + 1

abbrev pub decreases-cut_key : goal.decreases-cut_key
decreases-cut_key l = 4 * l.depth + 1

abbrev pub decreases-cut_pair : goal.decreases-cut_pair
decreases-cut_pair l = 4 * l.depth + 2

abbrev pub decreases-cut_pairs : goal.decreases-cut_pairs
decreases-cut_pairs l = 4 * l.depth + 3

-- those that were looked at are cut
abbrev pub invariant-cut_values-loop-value : goal.invariant-cut_values-loop-value
invariant-cut_values-loop-value l =
    map remote_tree l.value-items ≡ partly remote_tree (cut l.depth) l.value-index l.initial.value-items

abbrev pub invariant-cut_pairs-loop-pair : goal.invariant-cut_pairs-loop-pair
invariant-cut_pairs-loop-pair l =
    map remote_pair_tree l.pair-items ≡ partly remote_pair_tree (cut l.depth) l.pair-index l.initial.pair-items
