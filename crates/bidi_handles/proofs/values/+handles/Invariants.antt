use Rattle.std.proofs.Common.{◌≡◌, drop}
use Rattle.bidi_tree.specs.Outline.{outline_items, outline_members, named_outlines}
use Rattle.bidi_handles.specs.Values.{items_have_handle, members_have_handle}
use Rattle.bidi_handles.proofs.values.+handles.Given as goal

abbrev pub invariant-items_have_handle-loop-item : goal.invariant-items_have_handle-loop-item
invariant-items_have_handle-loop-item l =
    items_have_handle (outline_items l.items.items) ≡ items_have_handle (outline_items (drop l.item-index l.items.items))

abbrev pub invariant-members_have_handle-loop-member : goal.invariant-members_have_handle-loop-member
invariant-members_have_handle-loop-member l =
    members_have_handle (outline_members l.members) ≡ members_have_handle (named_outlines (drop l.member-index l.members.entries.items))
