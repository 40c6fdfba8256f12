use Rattle.std.proofs.Common.{refl}
use Rattle.bidi_host_loop.proofs.RouteLemmas.{forgets_none, routed_noted}
use Rattle.bidi_host_loop.proofs.edge.Edge.hand_bytes.Goals as goal

pub invariant_of-self-2 : goal.invariant_of-self-2
invariant_of-self-2 c = record { routed = routed_noted c.args.self.now.peers c.send_bytes.new.self _ _ _ c.note.ensures (forgets_none c.args.self.now.peers c.send_bytes.new.self c.send_bytes.ensures.keeps) (λ conn. refl) c.args.self.now.routed }
