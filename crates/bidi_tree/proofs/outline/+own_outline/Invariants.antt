use Rattle.std.proofs.Common.{◌≡◌, take, map}
use Rattle.bidi_tree.specs.Outline.{outline_node, named_outlines}
use Rattle.bidi_tree.specs.View.{node, members_node}
use Rattle.bidi_tree.proofs.outline.+own_outline.Given as goal

abbrev pub invariant-own_outline_items-loop-item : goal.invariant-own_outline_items-loop-item
invariant-own_outline_items-loop-item l = map node l.trees.items ≡ map outline_node (take l.item-index l.items.items)

abbrev pub invariant-own_outline_members-loop-member : goal.invariant-own_outline_members-loop-member
invariant-own_outline_members-loop-member l = members_node l.owned.entries ≡ named_outlines (take l.member-index l.members.entries.items)
