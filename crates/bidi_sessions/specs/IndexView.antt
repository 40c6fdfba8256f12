-- What contracts see of an index in the code.
use Rattle.std.specs.Prelude.{◌≡◌, ◌≤◌, ◌<◌, ◌+◌, true, List, length, vec_len, vec_capacity}
use Rattle.std.specs.List.{list_any, All as Each}
use Rattle.bidi_methods.specs.declared.event_data.EventName.{EventName}
use Rattle.bidi_contexts.specs.Occurrences.{is_among}
use Rattle.bidi_sessions.specs.declared.event_index.EventIndex.{EventIndex}
use Rattle.bidi_sessions.specs.Scope.{Scope, All, Below, Within}
use Rattle.bidi_sessions.specs.IndexRows.{IndexRow}

-- the row of the index of one event
abbrev pub index_row_of : EventIndex → IndexRow
index_row_of x = record { event = x.event; global = x.global.items; any_below = λ t. list_any t x.below.items; any_within = λ t. list_any t x.within.items }

-- The index has room for a subscription to these events in this scope.
abbrev pub HasRoomFor : List EventName → Scope → EventIndex → Type 0
HasRoomFor es All x = is_among es x.event ≡ true → vec_len x.global < vec_capacity x.global
HasRoomFor es (Below tops) x = is_among es x.event ≡ true → vec_len x.below + length tops ≤ vec_capacity x.below
HasRoomFor es (Within users) x = is_among es x.event ≡ true → vec_len x.within + length users ≤ vec_capacity x.within

-- Each of the indexes has room for a subscription to these events in this scope.
abbrev pub HaveRoomFor : List EventName → Scope → List EventIndex → Type 0
HaveRoomFor es scope xs = Each (HasRoomFor es scope) xs
