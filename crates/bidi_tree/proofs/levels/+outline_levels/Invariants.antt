use Rattle.std.proofs.Common.{◌≡◌, nat_le, drop}
use Rattle.bidi_tree.specs.Node.{items_levels, members_levels}
use Rattle.bidi_tree.specs.Outline.{outline_items, outline_members, named_outlines}
use Rattle.bidi_tree.proofs.levels.+outline_levels.Given as goal

abbrev pub invariant-are_within_outlines-loop-item : goal.invariant-are_within_outlines-loop-item
invariant-are_within_outlines-loop-item l =
    nat_le (items_levels (outline_items l.items.items)) l.limit ≡ nat_le (items_levels (outline_items (drop l.item-index l.items.items))) l.limit

abbrev pub invariant-are_within_outline_members-loop-member : goal.invariant-are_within_outline_members-loop-member
invariant-are_within_outline_members-loop-member l =
    nat_le (members_levels (outline_members l.members)) l.limit
    ≡ nat_le (members_levels (named_outlines (drop l.member-index l.members.entries.items))) l.limit
