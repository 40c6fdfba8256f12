-- The tables of active sessions and of their live subscriptions that a past leads to.
use Rattle.std.specs.Prelude.{ℕ, ◌==◌, if◌then◌else◌, List, map}
use Rattle.std.specs.Prelude.{filter}
use Rattle.bidi_methods.specs.declared.event_data.EventName.{EventName}
use Rattle.bidi_sessions.specs.SubscriptionRows.{SubscriptionRow}
use Rattle.bidi_remote.specs.Machine.History.{Deed}
use Rattle.bidi_remote.specs.Machine.Sessions.{sessions}
use Rattle.bidi_remote.specs.State.MissedRows.{places}
use Rattle.bidi_remote.specs.Machine.Subscriptions.{subscriptions_made, subscriptions, events_of, scope_of, holds}
use Rattle.bidi_active.specs.SessionRows.{SessionRow}

-- the events that the n-th subscription of a session still has
abbrev pub events_left : List Deed → ℕ → ℕ → List EventName
events_left past s n = filter (holds past s n) (events_of past s n)

-- the row of the n-th subscription of a session
abbrev pub row_at : List Deed → ℕ → ℕ → SubscriptionRow
row_at past s n = record { number = n; events = events_left past s n; scope = scope_of past s n }

-- the rows of the live subscriptions of a session, in order of number
abbrev pub subscription_rows : List Deed → ℕ → List SubscriptionRow
subscription_rows past s = map (row_at past s) (subscriptions past s)

-- the row of a session after a past
abbrev pub session_row : List Deed → ℕ → SessionRow
session_row past s = record { number = s; made = subscriptions_made past s; subscriptions = subscription_rows past s; missed = places past s }

-- the rows of the active sessions, in order of creation
abbrev pub session_rows : List Deed → List SessionRow
session_rows past = map (session_row past) (sessions past)

-- the rows with each row of this session changed
abbrev pub updated : ℕ → (SessionRow → SessionRow) → List SessionRow → List SessionRow
updated s f rows = map (λ r. if r.number == s then f r else r) rows
