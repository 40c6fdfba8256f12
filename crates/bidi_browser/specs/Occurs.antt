-- What an act causes, in order: events, and the result of the reply in its place among them. The past is the one before the act.
use Rattle.std.specs.Prelude.{ℕ, Bool, true, false, List, [], ◌∷◌, ◌++◌, map, flat_map, codes, bytes_eq, Option, Some, None, option_to_list, unwrap_or}
use Rattle.url.specs.Parts.{Parts}
use Rattle.bidi_tree.specs.Node.{Node, text, no_members}
use Rattle.bidi_handles.specs.declared.id.IdKind.TheVariants.{Context, Realm, Navigation, Handle, UserContext}
use Rattle.bidi_contexts.specs.Urls.{url_text}
use Rattle.bidi_contexts.specs.Acts.{Act, Made, Framed, Removed, Moved, Logged, Tabled, Ran, Disowned}
use Rattle.bidi_contexts.specs.Acts.{UserMade, UserRemoved, Looked, Move, Across, Ending, Returned, Threw, next_number}
use Rattle.bidi_contexts.specs.Contexts.{context_of, tops, tops_in, children_of, tree_order}
use Rattle.bidi_contexts.specs.Users.{users, user_info}
use Rattle.bidi_contexts.specs.Places.{entries_of, moved, present}
use Rattle.bidi_contexts.specs.Actions.{Wait, Started, Interactive, Complete, Action, Unframe, Navigate, Reload, GetTree, Evaluate, CallFunction, GetRealms, GetUserContexts}
use Rattle.bidi_values.specs.Cut.{cut_to}
use Rattle.bidi_handles.specs.Values.{with_member}
use Rattle.bidi_handles.specs.Maps.{◌being◌and◌, mapped, listed, nothing, word, number, id_tree}
use Rattle.bidi_contexts.specs.Info.{info_of}
use Rattle.bidi_methods.specs.declared.event_data.EventName.TheVariants.{NavigationStarted, DomContentLoaded, Load}
use Rattle.bidi_contexts.specs.Occurrences.{Occurrence, context_created, realm_created, realm_destroyed, realm_info, removal, navigation_event, entry_added}

-- An event occurs, or the reply is given.
pub data Item : Type 0 where
  Happens : (occurrence : Occurrence) → Item
  Replies : (result : Node) → Item

-- ---- contexts

-- A context is created, with its realm.
abbrev pub birth : List Act → Act → List Item
birth past act =
    let c = next_number past Context in
    Happens (context_created (act ∷ past) c) ∷ Happens (realm_created (act ∷ past) c) ∷ []

-- The reply to a removal: a close has one, and an unframe, which no client asked for, has none.
abbrev pub removal_reply : Action → List Item
removal_reply (Unframe id) = []
removal_reply action = Replies nothing ∷ []

-- The result of `browsingContext.create`.
abbrev pub created_result : List Act → Node
created_result past = mapped ("context" being id_tree Context (next_number past Context) and no_members)

-- ---- navigation

-- What the reply to a navigation waits for; that of a traversal comes last.
abbrev pub wait_in : Action → Wait
wait_in (Navigate id address wait) = wait
wait_in (Reload id wait) = wait
wait_in action = Complete

-- The result of `navigate` and `reload`; that of a traversal is empty.
abbrev pub navigated_result : List Act → Parts → Move → Node
navigated_result past url (Across place) = nothing
navigated_result past url move = mapped (
    "navigation" being id_tree Navigation (next_number past Navigation) and
    "url" being text (url_text url) and no_members)

-- All descendants of the context are removed, child by child, and its realm is replaced by a new one.
abbrev pub unloading : List Act → Act → ℕ → List Item
unloading past act c =
    map Happens (flat_map (removal past) (children_of past c))
    ++ Happens (realm_destroyed past c) ∷ Happens (realm_created (act ∷ past) c) ∷ []

-- The events of a navigation, with the reply directly after the event that it waits for.
abbrev pub replying : Wait → Item → Item → List Item → Item → Item → List Item
replying Started reply started unloaded ready loaded = started ∷ reply ∷ unloaded ++ ready ∷ loaded ∷ []
replying Interactive reply started unloaded ready loaded = started ∷ unloaded ++ ready ∷ reply ∷ loaded ∷ []
replying Complete reply started unloaded ready loaded = started ∷ unloaded ++ ready ∷ loaded ∷ reply ∷ []

-- The URL that a navigation of a context leads to.
abbrev pub led_to : List Act → ℕ → Move → Parts
led_to past c move = present (moved (entries_of past c) move)

-- What a navigation of a context causes, with this reply.
abbrev pub navigating : List Act → ℕ → Wait → ℕ → Move → Item → List Item
navigating past moment wait c move reply =
    let url = led_to past c move in
    replying wait reply
    (Happens (navigation_event past moment c url NavigationStarted))
    (unloading past (Moved c move) c)
    (Happens (navigation_event past moment c url DomContentLoaded))
    (Happens (navigation_event past moment c url Load))

-- What a navigation of a context causes, with its reply.
abbrev pub navigation : List Act → ℕ → Wait → ℕ → Move → List Item
navigation past moment wait c move = navigating past moment wait c move (Replies (navigated_result past (led_to past c move) move))

-- ---- scripts

-- The value, with a member `handle` if it got a handle.
abbrev pub shown : List Act → Bool → Node → Node
shown past true value = with_member "handle" (id_tree Handle (next_number past Handle)) value
shown past false value = value

-- The exception details of a thrown value; their lines, frames and text are this project's own.
abbrev pub exception_details : Node → Node
exception_details value = mapped (
    "columnNumber" being number 0 and
    "exception" being value and
    "lineNumber" being number 0 and
    "stackTrace" being mapped ("callFrames" being listed [] and no_members) and
    "text" being word "thrown" and no_members)

-- The depth at which the value of a script is cut.
abbrev pub depth_in : Action → Option ℕ
depth_in (Evaluate expression target owned depth) = depth
depth_in (CallFunction declaration target arguments this owned depth) = depth
depth_in action = None

-- The result of a script that ended in a realm: its value is cut, and then shows its handle.
abbrev pub script_result : List Act → ℕ → Option ℕ → Ending → Bool → Node
script_result past r depth (Returned value) held = mapped (
    "type" being word "success" and
    "result" being shown past held (cut_to depth value) and
    "realm" being id_tree Realm r and no_members)
script_result past r depth (Threw value) held = mapped (
    "type" being word "exception" and
    "exceptionDetails" being exception_details (shown past held (cut_to depth value)) and
    "realm" being id_tree Realm r and no_members)

-- ---- commands that look

-- The live context of an id, as a list.
abbrev pub only : List Act → List ℕ → List ℕ
only past id = option_to_list (context_of past id)

-- The contexts that `getTree` shows: the root, or all top-level ones if no root is given.
abbrev pub roots : List Act → Option (List ℕ) → List ℕ
roots past None = tops past
roots past (Some id) = only past id

-- The contexts whose realms `getRealms` shows; all realms are of type `window`.
abbrev pub realm_holders : List Act → Option (List ℕ) → Bool → List ℕ
realm_holders past context false = []
realm_holders past None true = tree_order past
realm_holders past (Some id) true = only past id

-- Realms of type `window` are asked for: the type is absent or `window`.
abbrev pub takes_windows : Option (List ℕ) → Bool
takes_windows type = bytes_eq (unwrap_or type (codes "window")) (codes "window")

-- The result of a command that only looks.
abbrev pub looked_result : List Act → Action → Node
looked_result past (GetTree depth root) = mapped ("contexts" being listed (map (info_of past depth) (roots past root)) and no_members)
looked_result past (GetRealms context type) =
    mapped ("realms" being listed (map (realm_info past) (realm_holders past context (takes_windows type))) and no_members)
looked_result past GetUserContexts = mapped ("userContexts" being listed (map user_info (users past)) and no_members)
looked_result past action = nothing

-- ---- every act

-- What an act causes at a moment, if the action asked for it.
abbrev pub occurs : List Act → ℕ → Action → Act → List Item
occurs past moment action (Made w u) = birth past (Made w u) ++ Replies (created_result past) ∷ []
occurs past moment action (Framed p url) = birth past (Framed p url)
occurs past moment action (Removed c) = map Happens (removal past c) ++ removal_reply action
occurs past moment action (Moved c move) = navigation past moment (wait_in action) c move
occurs past moment action (Logged c level line) = Happens (entry_added past moment c level line) ∷ []
occurs past moment action (Tabled t row) = []
occurs past moment action (Ran r ending held) = Replies (script_result past r (depth_in action) ending held) ∷ []
occurs past moment action (Disowned r ids) = Replies nothing ∷ []
occurs past moment action UserMade = Replies (user_info (next_number past UserContext)) ∷ []
occurs past moment action (UserRemoved u) = map Happens (flat_map (removal past) (tops_in past u)) ++ Replies nothing ∷ []
occurs past moment action Looked = Replies (looked_result past action) ∷ []
