use Rattle.std.proofs.Common.{◌≡◌, nat_le, drop}
use Rattle.bidi_tree.specs.Node.{items_levels, members_levels}
use Rattle.bidi_tree.specs.View.{items_node, members_node}
use Rattle.bidi_tree.proofs.levels.+levels.Given as goal

abbrev pub invariant-are_within_items-loop-item : goal.invariant-are_within_items-loop-item
invariant-are_within_items-loop-item l =
    nat_le (items_levels (items_node l.items.items)) l.limit ≡ nat_le (items_levels (items_node (drop l.item-index l.items.items))) l.limit

abbrev pub invariant-are_within_members-loop-member : goal.invariant-are_within_members-loop-member
invariant-are_within_members-loop-member l =
    nat_le (members_levels (members_node l.members.entries)) l.limit ≡ nat_le (members_levels (members_node l.member-iterator)) l.limit
