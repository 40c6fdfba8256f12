use Rattle.std.proofs.Common.{◌≡◌, drop}
use Rattle.json.specs.Value.{items_view, members_view}
use Rattle.bidi_tree.specs.Json.{are_readable, members_are_readable}
use Rattle.bidi_tree.proofs.reading.+readable.Given as goal

abbrev pub invariant-are_readable-loop-item : goal.invariant-are_readable-loop-item
invariant-are_readable-loop-item l = are_readable (items_view l.items.items) ≡ are_readable (items_view (drop l.item-index l.items.items))

abbrev pub invariant-members_are_readable-loop-member : goal.invariant-members_are_readable-loop-member
invariant-members_are_readable-loop-member l =
    members_are_readable (members_view l.members.items) ≡ members_are_readable (members_view (drop l.member-index l.members.items))
