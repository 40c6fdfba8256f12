-- What a remote end does at each input: the checks of each command in order, and the deed if none fails. After WebDriver BiDi, "Transport" and the commands of "The session Module".
use Rattle.std.specs.Prelude.{ℕ, nat_lt, Bool, not, ◌&&◌, if◌then◌else◌, List, [], ◌∷◌, ◌++◌, length, find}
use Rattle.std.specs.Prelude.{codes, bytes_eq, Option, Some, None, option_map, Result, Ok, Err}
use Rattle.std.specs.List.{list_all}
use Rattle.bidi_params.specs.declared.error_code.ErrorCode.{ErrorCode}
use Rattle.bidi_params.specs.declared.error_code.ErrorCode.TheVariants.{InvalidArgument, InvalidSessionId, SessionNotCreated}
use Rattle.bidi_params.specs.declared.error_code.ErrorCode.TheVariants.{UnknownCommand, UnknownError}
use Rattle.bidi_handles.specs.declared.id.IdKind.TheVariants.{Session, Subscription}
use Rattle.bidi_handles.specs.Ids.{id_of, id_text}
use Rattle.bidi_contexts.specs.Acts.{Act}
use Rattle.bidi_contexts.specs.Actions.{Action}
use Rattle.bidi_contexts.specs.Contexts.{top_of}
use Rattle.bidi_handles.specs.Checks.{◌>>=◌, need, found}
use Rattle.bidi_contexts.specs.Outcome as browser
use Rattle.bidi_messages.specs.Verdict.{Verdict, Accepted, Refused}
use Rattle.bidi_sessions.specs.Capabilities.{Request, matching}
use Rattle.bidi_remote.specs.Machine.Commands.{Command, Status, New, End, Subscribe, UnsubscribeById, UnsubscribeByEvents, OfBrowser, command_of, id_of_command}
use Rattle.bidi_remote.specs.Machine.History.{Input, At, Open, Drop, Heard, NotText, OfPage, Deed, Time, Opened, Dropped, Began}
use Rattle.bidi_remote.specs.Machine.History.{Ended, Subscribed, Cancelled, Dismissed, Did, Told, Scope, All, Below, Within, acts}
use Rattle.bidi_remote.specs.Machine.Sessions.{sessions}
use Rattle.bidi_remote.specs.Machine.Connections.{Attachment, Shut, Alone, SpeaksFor, is_open, attachment_of, open_connections}
use Rattle.bidi_remote.specs.Machine.Subscriptions.{subscriptions, holds_globally}
pub use Rattle.bidi_sessions.specs.EventNames.{events_of_module, event_or_module, events_named, all_named}
use Rattle.bidi_sessions.specs.Limits.{most_connections, most_sessions, most_subscriptions}

-- ---- subscribing

-- the top-level contexts above the contexts of these ids
abbrev pub tops_named : List Act → List (List ℕ) → Result (List ℕ) ErrorCode
tops_named past [] = Ok []
tops_named past (id ∷ ids) = do
  c ← browser.context_named past id
  tops ← tops_named past ids
  Ok (top_of past c ∷ tops)

-- the user contexts of these ids
abbrev pub users_named : List Act → List (List ℕ) → Result (List ℕ) ErrorCode
users_named past [] = Ok []
users_named past (id ∷ ids) = do
  u ← browser.user_checked past id
  users ← users_named past ids
  Ok (u ∷ users)

-- the scope that a subscribe asks for; contexts and user contexts together are an invalid argument
abbrev pub scope_asked : List Act → Option (List (List ℕ)) → Option (List (List ℕ)) → Result Scope ErrorCode
scope_asked past None None = Ok All
scope_asked past (Some ids) None = do
  tops ← tops_named past ids
  Ok (Below tops)
scope_asked past None (Some ids) = do
  users ← users_named past ids
  Ok (Within users)
scope_asked past (Some ids) (Some users) = Err InvalidArgument

-- A subscribe checks the event names, then the scope, then the number of live subscriptions.
abbrev pub subscribe_outcome : List Deed → ℕ → List (List ℕ) → Option (List (List ℕ)) → Option (List (List ℕ)) → Result Deed ErrorCode
subscribe_outcome past s names contexts users = do
  events ← all_named names
  scope ← scope_asked (acts past) contexts users
  few ← need (nat_lt (length (subscriptions past s)) most_subscriptions) UnknownError
  Ok (Subscribed s events scope)

-- the live subscriptions of these ids
abbrev pub subscriptions_named : List Deed → ℕ → List (List ℕ) → Result (List ℕ) ErrorCode
subscriptions_named past s [] = Ok []
subscriptions_named past s (id ∷ ids) = do
  n ← found (find (λ n. bytes_eq id (id_text Subscription s n)) (subscriptions past s)) InvalidArgument
  ns ← subscriptions_named past s ids
  Ok (n ∷ ns)

-- An unsubscribe by ids succeeds if each id is that of a live subscription.
abbrev pub unsubscribe_by_id_outcome : List Deed → ℕ → List (List ℕ) → Result Deed ErrorCode
unsubscribe_by_id_outcome past s ids = do
  ns ← subscriptions_named past s ids
  Ok (Cancelled s ns)

-- An unsubscribe by events checks the event names, then that a global subscription has each event.
abbrev pub unsubscribe_by_events_outcome : List Deed → ℕ → List (List ℕ) → Result Deed ErrorCode
unsubscribe_by_events_outcome past s names = do
  events ← all_named names
  held ← need (list_all (holds_globally past s) events) InvalidArgument
  Ok (Dismissed s events)

-- ---- commands

-- the deed for an act of the browser
abbrev pub did : Result Act ErrorCode → Result Deed ErrorCode
did (Ok act) = Ok (Did act)
did (Err code) = Err code

-- the outcome of a command on a connection that speaks for a session
abbrev pub outcome_in : List Deed → ℕ → Command → Result Deed ErrorCode
outcome_in past s Status = Ok Told
outcome_in past s (New request) = Err SessionNotCreated
outcome_in past s End = Ok (Ended s)
outcome_in past s (Subscribe names contexts users) = subscribe_outcome past s names contexts users
outcome_in past s (UnsubscribeById ids) = unsubscribe_by_id_outcome past s ids
outcome_in past s (UnsubscribeByEvents names) = unsubscribe_by_events_outcome past s names
outcome_in past s (OfBrowser action) = did (browser.outcome (acts past) action)

-- whether one more session can be made
abbrev pub is_ready : List Deed → Bool
is_ready past = nat_lt (length (sessions past)) most_sessions

-- A new session checks the capabilities, then the number of sessions.
abbrev pub new_outcome : List Deed → ℕ → Request → Result Deed ErrorCode
new_outcome past c request = do
  fit ← matching request
  few ← need (is_ready past) SessionNotCreated
  Ok (Began c)

-- the outcome of a command on an open connection without a session
abbrev pub outcome_alone : List Deed → ℕ → Command → Result Deed ErrorCode
outcome_alone past c Status = Ok Told
outcome_alone past c (New request) = new_outcome past c request
outcome_alone past c command = Err InvalidSessionId

-- the outcome of a command on a connection in this state
abbrev pub outcome : List Deed → ℕ → Attachment → Command → Result Deed ErrorCode
outcome past c Shut command = Err InvalidSessionId
outcome past c Alone command = outcome_alone past c command
outcome past c (SpeaksFor s) command = outcome_in past s command

-- ---- inputs

-- Why an input did nothing: a connection was denied or is not open, a message is refused, or a step of a page has no effect.
pub data NotTaken : Type 0 where
  Denied : (conn : ℕ) → NotTaken
  Lost : (conn : ℕ) → NotTaken
  Error : (conn : ℕ) (id : Option ℕ) (code : ErrorCode) → NotTaken
  NoEffect : NotTaken

-- whom a resource opens a connection for: no session for `/session`, an active session for `/session/ID`, and nothing else
abbrev pub session_of_resource : List Deed → List ℕ → Option (Option ℕ)
session_of_resource past resource =
    if bytes_eq resource (codes "/session") then Some None
    else option_map Some (find (λ s. bytes_eq resource (codes "/session/" ++ id_of Session s)) (sessions past))

-- whether a connection of this number may be opened: it is not open, and there is room for one more
abbrev pub may_open : List Deed → ℕ → Bool
may_open past c = not (is_open past c) && nat_lt (length (open_connections past)) most_connections

-- A connection is opened for the session of its resource, or denied.
abbrev pub opening : List Deed → ℕ → Option (Option ℕ) → Result Deed NotTaken
opening past c None = Err (Denied c)
opening past c (Some s) = if may_open past c then Ok (Opened c s) else Err (Denied c)

-- An error code is sent back with the id of the command.
abbrev pub replied : ℕ → ℕ → Result Deed ErrorCode → Result Deed NotTaken
replied c id (Ok d) = Ok d
replied c id (Err code) = Err (Error c (Some id) code)

-- what a command on this connection does; a tree that asks for nothing is an unknown command
abbrev pub asked : List Deed → ℕ → ℕ → Option Command → Result Deed NotTaken
asked past c id None = Err (Error c (Some id) UnknownCommand)
asked past c id (Some command) = replied c id (outcome past c (attachment_of past c) command)

-- what a message on an open connection does
abbrev pub answered : List Deed → ℕ → Verdict → Result Deed NotTaken
answered past c (Accepted t) = asked past c (id_of_command t) (command_of t)
answered past c (Refused id code) = Err (Error c id code)

-- the turn if the connection is open; else the input is lost
abbrev pub if_open : List Deed → ℕ → Result Deed NotTaken → Result Deed NotTaken
if_open past c turn = if is_open past c then turn else Err (Lost c)

-- A step of a page that the browser refuses has no effect.
abbrev pub in_page : Result Act ErrorCode → Result Deed NotTaken
in_page (Ok act) = Ok (Did act)
in_page (Err code) = Err NoEffect

-- the code of a refusal; an act has none
abbrev pub refusal_in : Result Act ErrorCode → Option ErrorCode
refusal_in (Ok act) = None
refusal_in (Err code) = Some code

-- the code with which the browser refuses a step of a page; a step that has an effect has none
abbrev pub page_refusal : List Deed → Action → Option ErrorCode
page_refusal past action = refusal_in (browser.outcome (acts past) action)

-- what an input does after this past, or why it does nothing
abbrev pub turn : List Deed → Input → Result Deed NotTaken
turn past (At n) = Ok (Time n)
turn past (Open c resource) = opening past c (session_of_resource past resource)
turn past (Drop c) = if_open past c (Ok (Dropped c))
turn past (Heard c verdict) = if_open past c (answered past c verdict)
turn past (NotText c) = if_open past c (answered past c (Refused None InvalidArgument))
turn past (OfPage action) = in_page (browser.outcome (acts past) action)

-- the past with the deed, if there is one
abbrev pub with_turn : List Deed → Result Deed NotTaken → List Deed
with_turn past (Ok d) = d ∷ past
with_turn past (Err refusal) = past

-- the past that a history leads to
abbrev pub deeds : List Input → List Deed
deeds [] = []
deeds (i ∷ history) = let past = deeds history in with_turn past (turn past i)
