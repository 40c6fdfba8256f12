use Rattle.std.proofs.Common.{◌≡◌}
use Rattle.bidi_host_loop.proofs.peers.Peers.send_to_pages.Given as goal

abbrev pub invariant-loop-place : goal.invariant-loop-place
invariant-loop-place l = l.self.routes ≡ l.initial.self.routes
