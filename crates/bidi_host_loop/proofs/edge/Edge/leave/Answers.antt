use Rattle.std.proofs.Common.{refl}
use Rattle.bidi_host_loop.proofs.RouteLemmas.{forgets_by, routed_kept}
use Rattle.bidi_host_loop.proofs.edge.Edge.leave.Goals as goal

pub invariant_of-self : goal.invariant_of-self
invariant_of-self c = record { routed = routed_kept c.args.self.now.peers c.leave.new.self c.args.self.now.account.deeds c.args.self.now.account.deeds (forgets_by c.args.self.now.peers c.leave.new.self c.args.role c.leave.ensures.left) refl c.args.self.now.routed }
