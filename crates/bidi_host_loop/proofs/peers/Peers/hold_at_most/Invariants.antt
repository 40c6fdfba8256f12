use Rattle.std.proofs.Common.{◌≡◌}
use Rattle.bidi_host_loop.proofs.peers.Peers.hold_at_most.Given as goal

abbrev pub invariant-loop : goal.invariant-loop
invariant-loop l = l.self.routes ≡ l.initial.self.routes
