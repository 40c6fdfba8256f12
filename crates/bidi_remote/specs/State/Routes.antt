-- Who gets an event, as the tables say.
use Rattle.std.specs.Prelude.{ℕ, List, filter, flat_map}
use Rattle.bidi_contexts.specs.Occurrences.{Occurrence}
use Rattle.bidi_remote.specs.Machine.Sent.{Sent, Text, occurrence_text}
use Rattle.bidi_sessions.specs.ConnectionRows as connections
use Rattle.bidi_sessions.specs.ConnectionRows.{to_each}
use Rattle.bidi_active.specs.SessionRows.{SessionRow}
use Rattle.bidi_sessions.specs.SubscriptionRows.{any_covers}

-- a string, once for each connection of a session
abbrev pub to_one : List connections.ConnectionRow → ℕ → List ℕ → List Sent
to_one rows s text = to_each (λ c. Text c text) s rows

-- the sessions that have a subscription to the event for its top-level context
abbrev pub hearers_in : List SessionRow → Occurrence → List SessionRow
hearers_in sessions o = filter (λ r. any_covers r.subscriptions o.event o.top) sessions

-- the message of an event, once for each connection of each of these sessions
abbrev pub to_all : List SessionRow → List connections.ConnectionRow → Occurrence → List Sent
to_all sessions rows o = flat_map (λ r. to_one rows r.number (occurrence_text o)) (hearers_in sessions o)
