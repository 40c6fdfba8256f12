use Rattle.std.proofs.Common.{length}
use Rattle.bidi_requests.proofs.asking.+names_only_local.Given as goal

abbrev pub decreases-names_only_local : goal.decreases-names_only_local
decreases-names_only_local l = length l.headers.now
