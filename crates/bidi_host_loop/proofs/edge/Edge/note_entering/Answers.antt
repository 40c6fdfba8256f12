use Rattle.std.proofs.Common.{refl}
use Rattle.bidi_host_loop.proofs.RouteLemmas.{routed_still}
use Rattle.bidi_host_loop.proofs.edge.Edge.note_entering.Goals as goal

pub invariant_of-self : goal.invariant_of-self
invariant_of-self c = record { routed = routed_still c.args.self.now.peers _ _ _ c.note.ensures (λ conn. refl) c.args.self.now.routed }

pub invariant_of-self-in-NoLine : goal.invariant_of-self-in-NoLine
invariant_of-self-in-NoLine c = record { routed = routed_still c.args.self.now.peers _ _ _ c.note-in-NoLine.ensures (λ conn. refl) c.args.self.now.routed }
