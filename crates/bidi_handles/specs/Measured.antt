-- The size of a value in which each reference counts as the value of its handle. Defined by this project.
use Rattle.std.specs.Prelude.{Option, Some, None, option_map, Result, Ok, Err}
use Rattle.std.specs.Borrow.{Bor}
use Rattle.bidi_tree.specs.Node.{Node, Items, Members}
use Rattle.bidi_params.specs.declared.error_code.ErrorCode.{ErrorCode}
use Rattle.bidi_handles.specs.declared.handles.Handles.{Handles}
use Rattle.bidi_handles.specs.declared.size.Size.{Size}
use Rattle.bidi_handles.specs.Handles.{values_in}
use Rattle.bidi_handles.specs.Sizes.{size_of}
use Rattle.bidi_handles.specs.Values.{Held, in_list, in_map, resolved, resolved_items, resolved_members}

-- the values that the handles of a realm hold, if there is a realm
abbrev pub in_realm : Option (Bor Handles) → Option Held
in_realm handles = option_map (λ h. values_in h.now) handles

-- the tree with its references resolved in a realm, or the tree itself if there is no realm
abbrev pub seen : Option Held → Node → Result Node ErrorCode
seen None t = Ok t
seen (Some held) t = resolved held t

-- the items with their references resolved in a realm, or the items themselves if there is no realm
abbrev pub seen_items : Option Held → Items → Result Items ErrorCode
seen_items None ts = Ok ts
seen_items (Some held) ts = resolved_items held ts

-- the members with their references resolved in a realm, or the members themselves if there is no realm
abbrev pub seen_members : Option Held → Members → Result Members ErrorCode
seen_members None ms = Ok ms
seen_members (Some held) ms = resolved_members held ms

-- the size of a tree, or the code of its failure
abbrev pub sized : Result Node ErrorCode → Result Size ErrorCode
sized (Ok t) = Ok (size_of t)
sized (Err code) = Err code

-- the size of the array of these items, or the code of their failure
abbrev pub items_sized : Result Items ErrorCode → Result Size ErrorCode
items_sized ts = sized (in_list ts)

-- the size of the object of these members, or the code of their failure
abbrev pub members_sized : Result Members ErrorCode → Result Size ErrorCode
members_sized ms = sized (in_map ms)
