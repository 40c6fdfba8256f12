use Rattle.std.proofs.Common.{refl}
use Rattle.bidi_host_loop.proofs.RouteLemmas.{routed_still}
use Rattle.bidi_host_loop.proofs.edge.Edge.restart.Goals as goal

pub invariant_of-self : goal.invariant_of-self
invariant_of-self g c = record { routed = routed_still c.args.self.now.peers _ _ _ c.note.ensures (λ conn. refl) c.args.self.now.routed }
