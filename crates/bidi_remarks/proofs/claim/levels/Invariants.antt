-- Fewer levels were tried than there are, and not too many.
use Rattle.std.proofs.Common.{◌≤◌, ◌-◌}
use Rattle.bidi_tree.specs.Node.{levels}
use Rattle.bidi_tree.specs.Outline.{outline_node}
use Rattle.bidi_remarks.proofs.claim.levels.Given as goal

abbrev pub invariant-deeper : goal.invariant-deeper
invariant-deeper l = (l.levels ≤ levels (outline_node l.tree)) × (l.levels ≤ 1000)

abbrev pub decreases-deeper : goal.decreases-deeper
decreases-deeper l = 1000 - l.levels
