-- The meaning of a turn in the code: the deed that its change makes, and what is sent for it.
use Rattle.std.specs.Prelude.{◌≡◌, ℕ, Bool, true, false, List, [], ◌∷◌, ◌++◌, map, flat_map, Option, Some, None, Result, Ok, Err, IfSome, ⊤}
use Rattle.bidi_params.specs.declared.error_code.ErrorCode.{ErrorCode}
use Rattle.bidi_methods.specs.declared.method.Method.{Method}
use Rattle.bidi_messages.specs.Message.{response_text}
use Rattle.bidi_contexts.specs.Acts.{Act, Logged}
use Rattle.bidi_contexts.specs.View.{seen}
use Rattle.bidi_browser.specs.View.{result_tree, result_method}
use Rattle.bidi_browser.specs.Plans as browser
use Rattle.bidi_contexts.specs.View.{AreWell}
use Rattle.bidi_browser.specs.Plans.{IsWellResult}
use Rattle.bidi_contexts.specs.Actions.{Action, Log}
use Rattle.bidi_contexts.specs.Occurrences.{Occurrence}
use Rattle.bidi_browser.specs.Occurs.{Item, Happens, Replies}
use Rattle.bidi_handles.specs.declared.refusal.Refusal.{Refusal}
use Rattle.bidi_handles.specs.declared.refusal.Refusal.TheVariants.{Code, NoMemory}
use Rattle.bidi_remote.specs.declared.state.State.{State}
use Rattle.bidi_remote.specs.declared.turn.Asker.{Asker}
use Rattle.bidi_remote.specs.declared.turn.Change.{Change}
use Rattle.bidi_remote.specs.declared.turn.Change.TheVariants.{Nothing, Begin, End, Subscribe, Cancel, Dismiss, Browse}
use Rattle.bidi_remote.specs.declared.turn.Reply.{Reply}
use Rattle.bidi_remote.specs.declared.turn.Telling.{Telling}
use Rattle.bidi_remote.specs.declared.turn.Turn.{Turn}
use Rattle.bidi_remote.specs.Machine.Commands.{Command}
use Rattle.bidi_remote.specs.Machine.History.{Deed, Began, Ended, Subscribed, Cancelled, Dismissed, Did, Told, acts}
use Rattle.bidi_remote.specs.Machine.Connections.{connections_of}
use Rattle.bidi_remote.specs.Machine.Sent.{Sent, Text, Close, to_hearers, announcements, items, action_in, closed}
use Rattle.bidi_sessions.specs.ConnectionRows as connections
use Rattle.bidi_sessions.specs.ConnectionRows.{to_each}
use Rattle.bidi_active.specs.Written.{Written, written_in}
use Rattle.bidi_remote.specs.State.EventTexts.{written, AreMessages}
use Rattle.bidi_remote.specs.State.Routes.{to_one}
use Rattle.bidi_active.specs.Places.{places_in}
use Rattle.bidi_active.specs.SessionView.{HasRoomForOne, HasRoomIn}
use Rattle.bidi_sessions.specs.SubscriptionView.{scope_of}

-- ---- what a change does

-- the deed that a change makes; a change of the browser makes the act that the browser does
abbrev pub deed_of : Change → Act → Deed
deed_of Nothing act = Told
deed_of (Begin c buffer) act = Began c.value
deed_of (End s) act = Ended s
deed_of (Subscribe s es scope) act = Subscribed s es.items (scope_of scope)
deed_of (Cancel s ns) act = Cancelled s ns.items
deed_of (Dismiss s es) act = Dismissed s es.items
deed_of (Browse change) act = Did act

-- whether the action logs an entry
abbrev pub is_log : Action → Bool
is_log (Log context level text) = true
is_log action = false

-- The act logs no entry. A log entry is not taken as a turn.
abbrev pub IsQuiet : Act → Type 0
IsQuiet (Logged c level text) = ⊥
IsQuiet act = ⊤

-- A change of the browser makes this act, and logs no entry. A new session has missed nothing.
abbrev pub IsMade : Change → List Act → Act → Type 0
IsMade (Browse change) past act = browser.Makes change past act × IsQuiet act
IsMade (Begin c buffer) past act = places_in buffer ≡ []
IsMade change past act = ⊤

-- The change is one of sessions and not of the browser. A new session has missed nothing.
abbrev pub IsOfSessions : Change → Type 0
IsOfSessions (Browse change) = ⊥
IsOfSessions (Begin c buffer) = places_in buffer ≡ []
IsOfSessions change = ⊤

-- The tables have room for what the change adds.
abbrev pub HasRoom : State → Change → Type 0
HasRoom state (Begin c buffer) = HasRoomForOne state.sessions
HasRoom state (Subscribe s es scope) = HasRoomIn s es.items (scope_of scope) state.sessions
HasRoom state (Browse change) = browser.HasRoom state.browser change
HasRoom state change = ⊤

-- ---- what a turn sends

-- the result of the reply, if there is a reply
abbrev pub reply_in : Option Reply → List Item
reply_in None = []
reply_in (Some r) = Replies (result_tree r.outcome) ∷ []

-- the connection and the id of the command that is replied to, if there is one
abbrev pub asker_in : Option Reply → Option (ℕ × ℕ)
asker_in None = None
asker_in (Some r) = Some (r.to.conn.value, r.to.id.value)

-- the events of a turn, with the result of the reply in its place
abbrev pub items_in : Telling → List Item
items_in t = map Happens (seen t.before.items) ++ (reply_in t.reply ++ map Happens (seen t.after.items))

-- the events that a subscription announces to its session
abbrev pub announced_by : List Deed → Deed → List Occurrence
announced_by past (Subscribed s es scope) = announcements past (Subscribed s es scope) s
announced_by past d = []

-- A turn sends exactly what the machine sends for the deed.
pub record Tells (t : Telling) (past : List Deed) (action : Option Action) (d : Deed) : Type 0 where
  pub announced : written_in t.announced.items ≡ map written (announced_by past d)
  pub messages : AreMessages (written_in t.announced.items)
  pub items : items_in t ≡ items past action d

-- A message can be made of each event and of the result.
pub record IsWellTold (t : Telling) : Type 0 where
  pub before : AreWell t.before.items
  pub reply : IfSome t.reply (λ r. IsWellResult r.outcome)
  pub after : AreWell t.after.items

-- ---- what was decided

-- The decision, a turn or a code, is the outcome of the command after this past, and the reply goes to the asker.
abbrev pub Decides : Result Turn Refusal → List Deed → Asker → Command → Result Deed ErrorCode → Type 0
Decides (Ok turn) past asker asked answer =
    (act : Act) × (answer ≡ Ok (deed_of turn.change act))
    × IsMade turn.change (acts past) act × Tells turn.telling past (action_in (Some asked)) (deed_of turn.change act)
    × (asker_in turn.telling.reply ≡ Some (asker.conn.value, asker.id.value))
Decides (Err (Code code)) past asker asked answer = answer ≡ Err code
Decides (Err NoMemory) past asker asked answer = ⊤

-- If there is a turn, messages can be made of what it sends.
abbrev pub IsWellDecided : Result Turn Refusal → Type 0
IsWellDecided (Ok turn) = IsWellTold turn.telling
IsWellDecided (Err refusal) = ⊤

-- If there is a turn with a reply, the result is one of this method.
abbrev pub HasResultOf : Method → Result Turn Refusal → Type 0
HasResultOf method (Ok turn) = IfSome turn.telling.reply (λ r. result_method r.outcome ≡ method)
HasResultOf method (Err refusal) = ⊤

-- ---- what is sent for a turn

-- An event goes to the sessions that are subscribed to it. The reply goes to the asker, if there is one.
abbrev pub sent_of_item : List Deed → Option (ℕ × ℕ) → Item → List Sent
sent_of_item past asker (Happens o) = to_hearers past o
sent_of_item past None (Replies result) = []
sent_of_item past (Some a) (Replies result) = Text a.0 (response_text a.1 result) ∷ []

-- What is announced goes to the session that subscribed.
abbrev pub to_subscriber : List Deed → Deed → List Written → List Sent
to_subscriber past (Subscribed s es scope) ws = flat_map (λ w. map (λ c. Text c w.text) (connections_of past s)) ws
to_subscriber past d ws = []

-- what is announced to a session, by the table of connections
abbrev pub to_subscriber_in : List connections.ConnectionRow → Deed → List Written → List Sent
to_subscriber_in rows (Subscribed s es scope) ws = flat_map (λ w. to_one rows s w.text) ws
to_subscriber_in rows d ws = []

-- the closes of a session that ends, by the table of connections
abbrev pub closed_in : List connections.ConnectionRow → Deed → List Sent
closed_in rows (Ended s) = to_each Close s rows
closed_in rows d = []

-- all that is sent for a deed: what is announced, the events with the reply, and the closes
abbrev pub sent_for : List Deed → Option (ℕ × ℕ) → Deed → List Written → List Item → List Sent
sent_for past asker d announced items = to_subscriber past d announced ++ (flat_map (sent_of_item past asker) items ++ closed past d)
