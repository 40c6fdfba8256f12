use Rattle.std.proofs.Common.{◌+◌, ◌*◌}
use Rattle.bidi_loader.proofs.bounds.+ends.Given as goal

-- what is left to do: the bounds that may come
abbrev pub decreases-ends : goal.decreases-ends
decreases-ends l = 2 * l.bounds + 1

abbrev pub decreases-ends_of : goal.decreases-ends_of
decreases-ends_of l = 2 * l.bounds
