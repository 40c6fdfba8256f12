use Rattle.std.proofs.Common.{◌≡◌, drop}
use Rattle.bidi_tree.specs.Node.{items_are_whole, members_are_whole, ItemsAreSound, MembersAreSound}
use Rattle.bidi_tree.specs.View.{items_node, members_node}
use Rattle.bidi_tree.proofs.whole.+whole.Given as goal

abbrev pub invariant-are_whole_items-loop-item : goal.invariant-are_whole_items-loop-item
invariant-are_whole_items-loop-item l = record {
  value : items_are_whole (items_node l.items.items) l.limit ≡ items_are_whole (items_node (drop l.item-index l.items.items)) l.limit;
  sound : ItemsAreSound (items_node (drop l.item-index l.items.items)) → ItemsAreSound (items_node l.items.items);
}

abbrev pub invariant-are_whole_members-loop-member : goal.invariant-are_whole_members-loop-member
invariant-are_whole_members-loop-member l = record {
  value : members_are_whole (members_node l.members.entries) l.limit ≡ members_are_whole (members_node l.member-iterator) l.limit;
  sound : MembersAreSound (members_node l.member-iterator) → MembersAreSound (members_node l.members.entries);
}
