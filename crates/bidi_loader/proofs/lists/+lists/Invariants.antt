use Rattle.std.proofs.Common.{◌+◌, ◌*◌}
use Rattle.bidi_loader.proofs.lists.+lists.Given as goal

-- what is left to do: the steps from one group to the next
abbrev pub decreases-lists : goal.decreases-lists
decreases-lists l = 3 * l.steps

abbrev pub decreases-lists_named : goal.decreases-lists_named
decreases-lists_named l = 3 * l.steps + 1

abbrev pub decreases-lists_at : goal.decreases-lists_at
decreases-lists_at l = 3 * l.steps + 2
