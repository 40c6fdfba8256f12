use Rattle.std.proofs.Common.{◌≡◌, ℕ, suc, ◌+◌, drop, length, Result, Ok, Err}
use Rattle.std.specs.Prelude.{max, true}
use Rattle.json.specs.Print.{quoted}
use Rattle.bidi_tree.specs.Node.{Items, no_items, item, Members, no_members, member, items_levels, members_levels}
use Rattle.bidi_tree.specs.Outline.{outline_items, outline_members, named_outlines}
use Rattle.bidi_tree.specs.Text.{compact_text, items_text, members_text}
use Rattle.bidi_params.specs.declared.error_code.ErrorCode.{ErrorCode}
use Rattle.bidi_handles.specs.declared.size.Size.{Size}
use Rattle.bidi_handles.specs.Measured.{in_realm, seen_items, seen_members, items_sized, members_sized}
use Rattle.bidi_handles.specs.Sizes.{counted}
use Rattle.bidi_handles.proofs.measuring.+measure.Given as goal

-- the bytes of some items after so many others of the array, with the closing bracket
abbrev pub items_bytes : ℕ → Items → ℕ
items_bytes c no_items = 1
items_bytes c (item t ts) = c + (length (compact_text t) + length (items_text true ts))

abbrev pub members_bytes : ℕ → Members → ℕ
members_bytes c no_members = 1
members_bytes c (member k t ms) = c + (length (quoted k) + suc (length (compact_text t) + length (members_text true ms)))

-- the size of an array whose first items have the size s, with these items after them
abbrev pub with_items : Size → ℕ → Result Items ErrorCode → Result Size ErrorCode
with_items s c (Ok ts) = Ok (record { levels = counted (suc (max s.levels (items_levels ts))); bytes = counted (suc (s.bytes + items_bytes c ts)) })
with_items s c (Err code) = Err code

abbrev pub with_members : Size → ℕ → Result Members ErrorCode → Result Size ErrorCode
with_members s c (Ok ms) = Ok (record { levels = counted (suc (max s.levels (members_levels ms))); bytes = counted (suc (s.bytes + members_bytes c ms)) })
with_members s c (Err code) = Err code

abbrev pub invariant-measured_items-loop-item : goal.invariant-measured_items-loop-item
invariant-measured_items-loop-item l =
    with_items l.size l.comma (seen_items (in_realm l.realm) (outline_items (drop l.item-index l.items.items)))
    ≡ items_sized (seen_items (in_realm l.realm) (outline_items l.items.items))

abbrev pub invariant-measured_members-loop-member : goal.invariant-measured_members-loop-member
invariant-measured_members-loop-member l =
    with_members l.size l.comma (seen_members (in_realm l.realm) (named_outlines (drop l.member-index l.members.entries.items)))
    ≡ members_sized (seen_members (in_realm l.realm) (outline_members l.members))
