use Rattle.std.proofs.Common.{◌≡◌, List, ◌++◌, take, drop, map}
use Rattle.bidi_tree.specs.Node.{ItemsAreSound, MembersAreSound}
use Rattle.bidi_tree.specs.View.{node, items_node, members_node}
use Rattle.bidi_tree.proofs.TreeLemmas.{Entry}
use Rattle.bidi_tree.proofs.copying.+copy.Given as goal

abbrev pub invariant-copy_trees-loop-tree : goal.invariant-copy_trees-loop-tree
invariant-copy_trees-loop-tree l = record {
  same : map node l.copies.items ≡ map node (take l.tree-index l.tree-items);
  sound : ItemsAreSound (items_node (drop l.tree-index l.tree-items)) → ItemsAreSound (items_node l.tree-items);
}

abbrev pub invariant-copy_members-loop-key : goal.invariant-copy_members-loop-key
invariant-copy_members-loop-key l =
    (done : List Entry) × (l.members.entries ≡ done ++ l.key-iterator) × (members_node l.copies.entries ≡ members_node done)
    × (MembersAreSound (members_node l.key-iterator) → MembersAreSound (members_node l.members.entries))
