-- What is sent for a command that a row answers, and for an event that a test sends. After WebDriver BiDi, "Protocol".
use Rattle.std.specs.Prelude.{ℕ, Bool, not, ◌||◌, if◌then◌else◌, List, [], ◌∷◌, ◌++◌, map, filter, flat_map, find, codes, bytes_eq, Option, Some, None, option_and_then}
use Rattle.std.specs.Option.{option_map_or}
use Rattle.bidi_methods.specs.declared.event_data.EventName.{EventName}
use Rattle.bidi_contexts.specs.declared.occurrence.Top.{Top}
use Rattle.bidi_rows.specs.Rows.{Event, Answer, reply_text}
use Rattle.bidi_remote.specs.Machine.History.{Deed, acts}
use Rattle.bidi_remote.specs.Machine.Sessions.{sessions}
use Rattle.bidi_remote.specs.Machine.Connections.{connections_of, is_open}
use Rattle.bidi_remote.specs.Machine.Asking.{hears, top_named}
use Rattle.bidi_remote.specs.Machine.Sent.{Sent, Text, Lost}
use Rattle.json.specs.Json.{Json, document}
use Rattle.bidi_rows.specs.Filling.{filling_of, filled_text}
use Rattle.bidi_rows.specs.Reading.{string_at, object_at}
use Rattle.bidi_names.specs.Names.{event_named}
use Rattle.bidi_names.specs.Subscriptions.{Named, holds_name}
use Rattle.bidi_scripted.specs.Script.{Held, Follower}

-- the top-level context in whose tree an event happens, if its params name a live context
abbrev pub top_of_event : List Deed → Event → Option Top
top_of_event past e = option_and_then (top_named (acts past)) e.context

-- whether an event reaches a session: an event of the profile if it is enabled there, any other if the session is subscribed to its name
abbrev pub reaches : List Deed → List Named → List ℕ → Option EventName → Option Top → ℕ → Bool
reaches past named name None top s = holds_name named s name top
reaches past named name (Some event) top s = hears past s event top

-- the sessions that an event reaches, in order of creation
abbrev pub reached : List Deed → List Named → Event → List ℕ
reached past named e = filter (reaches past named e.method (event_named e.method) (top_of_event past e)) (sessions past)

-- the message of an event, once to each connection of each session that it reaches
abbrev pub emitted : List Deed → List Named → Event → List Sent
emitted past named e = flat_map (λ s. map (λ c. Text c e.text) (connections_of past s)) (reached past named e)

-- the messages of some events, one event after another
abbrev pub all_emitted : List Deed → List Named → List Event → List Sent
all_emitted past named es = flat_map (emitted past named) es

-- what is sent for a command that is answered: the events before, the reply, and the events after
abbrev pub answer_sent : List Deed → List Named → ℕ → ℕ → Answer → List Sent
answer_sent past named c id answer = all_emitted past named answer.before ++ Text c (reply_text id answer.reply) ∷ all_emitted past named answer.after

-- whether the connection of a held command is gone
abbrev pub is_gone : List Deed → Held → Bool
is_gone past h = h.is_lost || not (is_open past h.conn)

-- what is sent for a held command that is answered: if its connection is gone, it is lost
abbrev pub release_sent : List Deed → List Named → Held → Answer → List Sent
release_sent past named h answer = if is_gone past h then Lost h.conn ∷ [] else answer_sent past named h.conn h.id answer

-- ---- events that follow those of the machine

-- the events that follow an event of this method with these params, by what a test said of the method
abbrev pub following : List Follower → Option (List ℕ) → Option Json → List (List ℕ)
following followers (Some method) (Some params) =
    option_map_or (λ f. map (filled_text (filling_of params)) f.events) (find (λ f. bytes_eq f.method method) followers) []
following followers method params = []

-- the messages of the events that follow a message, if it is that of an event
abbrev pub followers_of : List Follower → List ℕ → List (List ℕ)
followers_of followers text = option_map_or (λ j. following followers (string_at (codes "method") j) (object_at (codes "params") j)) (document text) []

-- what follows something that the machine sends, on the same connection
abbrev pub followed_by : List Follower → Sent → List Sent
followed_by followers (Text c text) = map (Text c) (followers_of followers text)
followed_by followers sent = []
