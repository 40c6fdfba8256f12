use Rattle.std.proofs.Common.{◌≡◌, List, ◌++◌, map}
use Rattle.bidi_tree.specs.Node.{MembersAreWhole}
use Rattle.bidi_tree.specs.View.{members_node}
use Rattle.bidi_tree.proofs.TreeLemmas.{Entry}
use Rattle.bidi_shape.specs.Fits.{without}
use Rattle.bidi_shape.proofs.members.others.Given as goal

abbrev pub invariant-loop-name : goal.invariant-loop-name
invariant-loop-name l =
    (done : List Entry) × (l.members.entries ≡ done ++ l.name-iterator)
    × (members_node l.rest.entries ≡ without (map (λ s. s.now) l.names) (members_node done))
    × (MembersAreWhole (members_node l.rest.entries) 60)
