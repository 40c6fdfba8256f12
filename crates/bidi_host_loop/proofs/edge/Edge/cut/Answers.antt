use Rattle.std.proofs.Common.{refl}
use Rattle.bidi_host_loop.proofs.RouteLemmas.{forgets_one, routed_noted}
use Rattle.bidi_host_loop.proofs.edge.Edge.cut.Goals as goal

pub invariant_of-self : goal.invariant_of-self
invariant_of-self c = record { routed = routed_noted c.args.self.now.peers c.cut.new.self _ _ _ c.note.ensures (forgets_one c.args.self.now.peers c.cut.new.self c.args.conn.value c.cut.ensures.left) (λ conn. refl) c.args.self.now.routed }
