-- What is left to do: the nodes that may be inside one another.
use Rattle.std.proofs.Common.{◌+◌, ◌*◌}
use Rattle.test_cddl.proofs.shown.+show.Given as goal

abbrev pub decreases-node_shown : goal.decreases-node_shown
decreases-node_shown l = 4 * l.depth

abbrev pub decreases-pair_shown : goal.decreases-pair_shown
decreases-pair_shown l = 4 * l.depth + 1

abbrev pub decreases-parts_shown : goal.decreases-parts_shown
decreases-parts_shown l = 4 * l.depth + 2
