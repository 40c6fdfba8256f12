use Rattle.std.proofs.Common.{◌≤◌, drop}
use Rattle.json.specs.Tree.{items_depth, members_depth}
use Rattle.json.specs.Value.{items_view, members_view}
use Rattle.bidi_tree.proofs.owning.+shallow.Given as goal

abbrev pub invariant-are_shallow-loop-item : goal.invariant-are_shallow-loop-item
invariant-are_shallow-loop-item l = items_depth (items_view (drop l.item-index l.items.items)) ≤ l.limit → items_depth (items_view l.items.items) ≤ l.limit

abbrev pub invariant-members_are_shallow-loop-member : goal.invariant-members_are_shallow-loop-member
invariant-members_are_shallow-loop-member l =
    members_depth (members_view (drop l.member-index l.members.items)) ≤ l.limit → members_depth (members_view l.members.items) ≤ l.limit
