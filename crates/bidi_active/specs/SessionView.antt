-- What contracts see of the sessions in the code.
use Rattle.std.specs.Prelude.{◌≡◌, ◌<◌, ◌==◌, ℕ, List, map, get_or, Option, Some, None, vec_len, vec_capacity}
use Rattle.std.specs.List.{position}
use Rattle.bidi_active.specs.declared.sessions.Opening as declared_opening
use Rattle.bidi_active.specs.declared.sessions.Opening.TheVariants as opens
use Rattle.bidi_active.specs.declared.sessions.Session.{Session}
use Rattle.bidi_active.specs.declared.sessions.Sessions.{Sessions}
use Rattle.bidi_methods.specs.declared.event_data.EventName.{EventName}
use Rattle.bidi_sessions.specs.Scope.{Scope}
use Rattle.bidi_active.specs.Places.{places_in}
use Rattle.bidi_active.specs.SessionRows.{SessionRow}
use Rattle.bidi_sessions.specs.SubscriptionsView.{rows_of, HasRoomFor}

-- the row of a session in the code
abbrev pub session_row_of : Session → SessionRow
session_row_of s = record { number = s.number; made = s.made; subscriptions = rows_of s.subscriptions; missed = places_in s.missed }

-- the rows of the table in the code
abbrev pub rows_in : Sessions → List SessionRow
rows_in sessions = map session_row_of sessions.active.items

-- the session that a connection is opened for, if it is for one
abbrev pub opened_by : declared_opening.Opening → Option ℕ
opened_by opens.Alone = None
opened_by (opens.For s) = Some s

-- ---- room

-- There is room for one more session.
abbrev pub HasRoomForOne : Sessions → Type 0
HasRoomForOne sessions = vec_len sessions.active < vec_capacity sessions.active

-- The session of this number, if it is active, has room for one more subscription to these events in this scope.
abbrev pub HasRoomIn : ℕ → List EventName → Scope → Sessions → Type 0
HasRoomIn number es scope sessions =
    (i : ℕ) (d : Session) → position (λ s. s.number == number) sessions.active.items ≡ Some i
    → HasRoomFor es scope (get_or sessions.active.items i d).subscriptions
