use Rattle.std.proofs.Common.{refl}
use Rattle.bidi_host_loop.proofs.RouteLemmas.{routed_still}
use Rattle.bidi_host_loop.proofs.edge.Edge.note_coming.Goals as goal

pub invariant_of-self : goal.invariant_of-self
invariant_of-self c = record { routed = routed_still c.args.self.now.peers _ _ _ c.note.ensures (λ conn. refl) c.args.self.now.routed }

pub invariant_of-self-in-Calls-1 : goal.invariant_of-self-in-Calls-1
invariant_of-self-in-Calls-1 c = record { routed = routed_still c.args.self.now.peers _ _ _ c.note-in_default-Calls.ensures (λ conn. refl) c.args.self.now.routed }

pub invariant_of-self-in-Client-1 : goal.invariant_of-self-in-Client-1
invariant_of-self-in-Client-1 c = record { routed = routed_still c.args.self.now.peers _ _ _ c.note-in-Client-Text.ensures (λ conn. refl) c.args.self.now.routed }

pub invariant_of-self-in-Page-1 : goal.invariant_of-self-in-Page-1
invariant_of-self-in-Page-1 c = record { routed = routed_still c.args.self.now.peers _ _ _ c.note-in-Page-Text.ensures (λ conn. refl) c.args.self.now.routed }

pub invariant_of-self-in-Client-this-2 : goal.invariant_of-self-in-Client-this-2
invariant_of-self-in-Client-this-2 c = record { routed = routed_still c.args.self.now.peers _ _ _ c.note-in-Client-NotText.ensures (λ conn. refl) c.args.self.now.routed }

pub invariant_of-self-in-Page-this-2 : goal.invariant_of-self-in-Page-this-2
invariant_of-self-in-Page-this-2 c = record { routed = routed_still c.args.self.now.peers _ _ _ c.note-in-Page-NotText.ensures (λ conn. refl) c.args.self.now.routed }

pub invariant_of-self-in-Client-this-3 : goal.invariant_of-self-in-Client-this-3
invariant_of-self-in-Client-this-3 c = record { routed = routed_still c.args.self.now.peers _ _ _ c.note-in-Client-Ended.ensures (λ conn. refl) c.args.self.now.routed }
