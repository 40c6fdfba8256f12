use Rattle.std.proofs.Common.{◌≡◌, drop}
use Rattle.bidi_requests.specs.Targets.{after_authority}
use Rattle.bidi_requests.proofs.targets.after_authority.Given as goal

-- what follows the authority lies in what is left
abbrev pub invariant-loop-at : goal.invariant-loop-at
invariant-loop-at l = after_authority l.bytes ≡ after_authority (drop l.at l.bytes)
