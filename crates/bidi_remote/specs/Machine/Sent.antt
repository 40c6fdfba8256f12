-- What a remote end sends at each input. After WebDriver BiDi, "Transport"; the order of what is sent is this project's own.
use Rattle.std.specs.Prelude.{ℕ, ◌==◌, true, false, if◌then◌else◌, List, [], ◌∷◌, ◌++◌, map, filter, flat_map, codes, Option, Some, None, Result, Ok, Err}
use Rattle.bidi_tree.specs.Node.{Node, text, no_members}
use Rattle.bidi_messages.specs.Message.{status_tree, response_text, error_text, event_text}
use Rattle.bidi_handles.specs.declared.id.IdKind.TheVariants.{Session}
use Rattle.bidi_handles.specs.Ids.{id_of}
use Rattle.bidi_contexts.specs.Actions.{Action}
use Rattle.bidi_handles.specs.Maps.{◌being◌and◌, mapped, nothing}
use Rattle.bidi_contexts.specs.Occurrences.{Occurrence, tree_events}
use Rattle.bidi_browser.specs.Occurs.{Item, Happens, Replies, occurs}
use Rattle.bidi_messages.specs.Verdict.{Accepted}
use Rattle.bidi_sessions.specs.Capabilities.{capabilities}
use Rattle.bidi_remote.specs.Machine.Commands.{Command, OfBrowser, command_of, id_of_command}
use Rattle.bidi_remote.specs.Machine.History.{Input, Heard, OfPage, Deed, Began, Ended, Subscribed, Did, Told, acts, moment}
use Rattle.bidi_remote.specs.Machine.History as did
use Rattle.bidi_remote.specs.Machine.Sessions.{next_session, sessions}
use Rattle.bidi_remote.specs.Machine.Connections.{connections_of}
use Rattle.bidi_remote.specs.Machine.Subscriptions.{next_subscription, is_enabled, is_newly_enabled}
use Rattle.bidi_remote.specs.Machine.LogBuffer.{waiting_for}
use Rattle.bidi_remote.specs.Machine.Outcome.{NotTaken, is_ready, turn, deeds}
use Rattle.bidi_remote.specs.Machine.Outcome as outcome
pub use Rattle.bidi_sessions.specs.Sent.{Sent, Text, Close, Opened, Denied, Lost, NoEffect}
pub use Rattle.bidi_sessions.specs.Results.{subscription_tree}

-- ---- events

-- the message of an event
abbrev pub occurrence_text : Occurrence → List ℕ
occurrence_text o = event_text o.event o.params

-- the message of an event, once for each connection of a session
abbrev pub to_session : List Deed → Occurrence → ℕ → List Sent
to_session past o s = map (λ c. Text c (occurrence_text o)) (connections_of past s)

-- the active sessions for which an event is enabled, in order of creation
abbrev pub hearers : List Deed → Occurrence → List ℕ
hearers past o = filter (λ s. is_enabled past s o.event o.top) (sessions past)

-- the message of an event, once for each connection of each session for which it is enabled
abbrev pub to_hearers : List Deed → Occurrence → List Sent
to_hearers past o = flat_map (to_session past o) (hearers past o)

-- ---- events for a new subscription

-- the events of what exists and the log entries that wait, as far as the deed newly enables them
abbrev pub announcements : List Deed → Deed → ℕ → List Occurrence
announcements past d s =
    filter (λ o. is_newly_enabled past d s o.event o.top) (tree_events (acts past) ++ waiting_for past s)

-- ---- results

-- the result of `session.status`
abbrev pub status_result : List Deed → Node
status_result past = if is_ready past then status_tree true (codes "ready") else status_tree false (codes "full")

-- the result of `session.new`: the id of the next session, and the capabilities of the browser
abbrev pub new_result : List Deed → Node
new_result past = mapped (
    "capabilities" being capabilities and
    "sessionId" being text (id_of Session (next_session past)) and no_members)

-- the result of `session.subscribe`: the id of the next subscription of the session
abbrev pub subscribe_result : List Deed → ℕ → Node
subscribe_result past s = subscription_tree s (next_subscription past s)

-- ---- events and results of a deed

-- the action that a command asks of the browser, if it asks for one
abbrev pub action_in : Option Command → Option Action
action_in (Some (OfBrowser action)) = Some action
action_in command = None

-- the events of a deed, with the result of its command in its place among them
abbrev pub items : List Deed → Option Action → Deed → List Item
items past (Some action) (Did act) = occurs (acts past) (moment past) action act
items past action Told = Replies (status_result past) ∷ []
items past action (Began c) = Replies (new_result past) ∷ []
items past action (Subscribed s events scope) = Replies (subscribe_result past s) ∷ []
items past action d = Replies nothing ∷ []

-- what a session is sent before the reply to a subscribe, on each of its connections
abbrev pub announced : List Deed → Deed → List Sent
announced past (Subscribed s events scope) = flat_map (λ o. to_session past o s) (announcements past (Subscribed s events scope) s)
announced past d = []

-- the closes of the connections of a session that ends
abbrev pub closed : List Deed → Deed → List Sent
closed past (Ended s) = map Close (connections_of past s)
closed past d = []

-- ---- what is sent

-- what is sent for an event or a result; the reply goes to the connection that asked, with the id of the command
abbrev pub sent_to : List Deed → ℕ → ℕ → Item → List Sent
sent_to past c id (Happens o) = to_hearers past o
sent_to past c id (Replies result) = Text c (response_text id result) ∷ []

-- what is sent for an event or a result of a step of a page, to which nobody gets a reply
abbrev pub sent_unasked : List Deed → Item → List Sent
sent_unasked past (Happens o) = to_hearers past o
sent_unasked past (Replies result) = []

-- what is sent at an input that does nothing
abbrev pub refused : NotTaken → List Sent
refused (outcome.Denied c) = Denied c ∷ []
refused (outcome.Lost c) = Lost c ∷ []
refused (outcome.Error c id code) = Text c (error_text id code) ∷ []
refused outcome.NoEffect = NoEffect ∷ []

-- what is sent at an input that did this deed, or did nothing for this reason
abbrev pub told : List Deed → Input → Result Deed NotTaken → List Sent
told past (Heard c (Accepted t)) (Ok d) =
    announced past d
    ++ (flat_map (sent_to past c (id_of_command t)) (items past (action_in (command_of t)) d)
    ++ closed past d)
told past (OfPage action) (Ok d) = flat_map (sent_unasked past) (items past (Some action) d)
told past i (Ok (did.Opened c s)) = Opened c ∷ []
told past i (Ok d) = []
told past i (Err refusal) = refused refusal

-- what is sent at an input, after a history
abbrev pub out : List Input → Input → List Sent
out history i = let past = deeds history in told past i (turn past i)

-- what is sent at these inputs in order, after a history
abbrev pub answers_after : List Input → List Input → List Sent
answers_after history [] = []
answers_after history (i ∷ inputs) = out history i ++ answers_after (i ∷ history) inputs

-- what a new remote end sends at these inputs, in order
abbrev pub answers : List Input → List Sent
answers inputs = answers_after [] inputs

-- ---- one connection

-- the message, if it is sent on this connection
abbrev pub text_on : ℕ → Sent → List (List ℕ)
text_on c (Text d s) = if c == d then s ∷ [] else []
text_on c x = []

-- the messages that are sent on one connection, in order
abbrev pub texts_on : ℕ → List Sent → List (List ℕ)
texts_on c sent = flat_map (text_on c) sent
