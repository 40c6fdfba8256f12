use Rattle.std.proofs.Common.{refl}
use Rattle.bidi_host_loop.proofs.RouteLemmas.{forgets_none, routed_noted}
use Rattle.bidi_host_loop.proofs.edge.Edge.answer.Goals as goal

pub invariant_of-self-2 : goal.invariant_of-self-2
invariant_of-self-2 c = record { routed = routed_noted c.args.self.now.peers c.send_to.new.self _ _ _ c.note.ensures (forgets_none c.args.self.now.peers c.send_to.new.self c.send_to.ensures.keeps) (λ conn. refl) c.args.self.now.routed }
