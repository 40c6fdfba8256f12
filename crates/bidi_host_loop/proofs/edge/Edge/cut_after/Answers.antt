use Rattle.std.proofs.Common.{refl}
use Rattle.bidi_host_loop.proofs.RouteLemmas.{forgets_none, routed_noted}
use Rattle.bidi_host_loop.proofs.edge.Edge.cut_after.Goals as goal

pub invariant_of-self : goal.invariant_of-self
invariant_of-self c = record { routed = routed_noted c.args.self.now.peers c.cut_after.new.self _ _ _ c.note.ensures (forgets_none c.args.self.now.peers c.cut_after.new.self c.cut_after.ensures.keeps) (λ conn. refl) c.args.self.now.routed }
