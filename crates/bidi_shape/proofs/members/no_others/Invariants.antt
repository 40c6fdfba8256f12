use Rattle.std.proofs.Common.{◌≡◌, map}
use Rattle.bidi_tree.specs.View.{members_node}
use Rattle.bidi_shape.specs.Fits.{without}
use Rattle.bidi_shape.proofs.members.no_others.Given as goal

abbrev pub invariant-loop-name : goal.invariant-loop-name
invariant-loop-name l = without (map (λ s. s.now) l.names) (members_node l.members.entries) ≡ without (map (λ s. s.now) l.names) (members_node l.name-iterator)
