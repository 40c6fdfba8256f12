use Rattle.std.proofs.Common.{length}
use Rattle.bidi_remarks.proofs.misfit.+starred.Given as goal

abbrev pub decreases-starred : goal.decreases-starred
decreases-starred l = length l.steps.now
