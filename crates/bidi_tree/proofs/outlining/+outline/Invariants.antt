use Rattle.std.proofs.Common.{◌≡◌, List, ◌++◌, take, map}
use Rattle.bidi_tree.specs.Outline.{outline_node, named_outlines}
use Rattle.bidi_tree.specs.View.{node, members_node}
use Rattle.bidi_tree.proofs.TreeLemmas.{Entry}
use Rattle.bidi_tree.proofs.outlining.+outline.Given as goal

abbrev pub invariant-outlines_of-loop-item : goal.invariant-outlines_of-loop-item
invariant-outlines_of-loop-item l = map outline_node l.outlines.items ≡ map node (take l.item-index l.items.items)

abbrev pub invariant-outline_members_of-loop-name : goal.invariant-outline_members_of-loop-name
invariant-outline_members_of-loop-name l =
    (done : List Entry) × (l.members.entries ≡ done ++ l.name-iterator) × (named_outlines l.outlines.items ≡ members_node done)
