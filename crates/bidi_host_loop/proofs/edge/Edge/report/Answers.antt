use Rattle.std.proofs.Common.{refl}
use Rattle.bidi_host_loop.proofs.RouteLemmas.{forgets_none, routed_noted}
use Rattle.bidi_host_loop.proofs.edge.Edge.report.Goals as goal

pub invariant_of-self-2 : goal.invariant_of-self-2
invariant_of-self-2 g c = record { routed = routed_noted c.args.self.now.peers c.send_to_pages.new.self _ _ _ c.note.ensures (forgets_none c.args.self.now.peers c.send_to_pages.new.self c.send_to_pages.ensures.keeps) (λ conn. refl) c.args.self.now.routed }
