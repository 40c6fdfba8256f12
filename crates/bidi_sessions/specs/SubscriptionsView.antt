-- What contracts see of the subscriptions of a session in the code.
use Rattle.std.specs.Prelude.{◌<◌, ◌≤◌, List, length, map, vec_len, vec_capacity}
use Rattle.bidi_methods.specs.declared.event_data.EventName.{EventName}
use Rattle.bidi_sessions.specs.declared.subscription_table.Subscriptions.{Subscriptions}
use Rattle.bidi_sessions.specs.Scope.{Scope}
use Rattle.bidi_sessions.specs.SubscriptionRows.{SubscriptionRow}
use Rattle.bidi_sessions.specs.SubscriptionView.{row_of}
use Rattle.bidi_sessions.specs.IndexRows.{named_in}
use Rattle.bidi_sessions.specs.IndexView.{HaveRoomFor}

-- the rows of the subscriptions, in order of number
abbrev pub rows_of : Subscriptions → List SubscriptionRow
rows_of s = map row_of s.rows.items

-- There is room for one more subscription, to these events in this scope.
abbrev pub HasRoomFor : List EventName → Scope → Subscriptions → Type 0
HasRoomFor es scope s = (vec_len s.rows < vec_capacity s.rows) × (length (named_in scope) ≤ vec_capacity s.named) × HaveRoomFor es scope s.by_event
