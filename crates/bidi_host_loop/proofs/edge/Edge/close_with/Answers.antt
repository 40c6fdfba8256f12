use Rattle.std.proofs.Common.{refl}
use Rattle.bidi_host_loop.proofs.RouteLemmas.{forgets_one, routed_kept, routed_noted}
use Rattle.bidi_host_loop.proofs.edge.Edge.close_with.Goals as goal

pub invariant_of-self-2 : goal.invariant_of-self-2
invariant_of-self-2 c = record { routed = routed_noted c.args.self.now.peers c.close_with.new.self _ _ _ c.note.ensures (forgets_one c.args.self.now.peers c.close_with.new.self c.args.conn.value c.close_with.ensures.left) (λ conn. refl) c.args.self.now.routed }

pub invariant_of-self : goal.invariant_of-self
invariant_of-self c = record { routed = routed_kept c.args.self.now.peers c.close_with.new.self c.args.self.now.account.deeds c.args.self.now.account.deeds (forgets_one c.args.self.now.peers c.close_with.new.self c.args.conn.value c.close_with.ensures.left) refl c.args.self.now.routed }
