use Rattle.std.proofs.Common.{◌≡◌, ◌+◌, ◌*◌, map, take}
use Rattle.bidi_values.specs.Cut.{cut}
use Rattle.bidi_values.specs.RemoteView.{remote_tree, remote_pair_tree}
use Rattle.bidi_handles.proofs.within.+within.Given as goal

-- what a value holds is asked for one level less deep
abbrev pub decreases-is_within : goal.decreases-is_within
decreases-is_within l = 4 * l.depth

abbrev pub decreases-are_within : goal.decreases-are_within
decreases-are_within l = 4 * l.depth + 1

abbrev pub decreases-is_key_within : goal.decreases-is_key_within
decreases-is_key_within l = 4 * l.depth + 1

abbrev pub decreases-is_pair_within : goal.decreases-is_pair_within
decreases-is_pair_within l = 4 * l.depth + 2

abbrev pub decreases-pairs_are_within : goal.decreases-pairs_are_within
decreases-pairs_are_within l = 4 * l.depth + 3

-- those that were looked at stay as they are
abbrev pub invariant-are_within-loop-value : goal.invariant-are_within-loop-value
invariant-are_within-loop-value l =
    map remote_tree (take l.value-index l.value-items) ≡ map (λ v. cut l.depth (remote_tree v)) (take l.value-index l.value-items)

abbrev pub invariant-pairs_are_within-loop-pair : goal.invariant-pairs_are_within-loop-pair
invariant-pairs_are_within-loop-pair l =
    map remote_pair_tree (take l.pair-index l.pair-items) ≡ map (λ p. cut l.depth (remote_pair_tree p)) (take l.pair-index l.pair-items)
