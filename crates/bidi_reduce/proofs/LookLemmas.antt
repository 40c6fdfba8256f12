-- What only looked at the browser changes nothing: each question about its past is answered alike without such acts.
use Rattle.std.proofs.Common.{◌≡◌, ℕ, zero, suc, ℤ, Bool, true, false, not, ◌&&◌, ◌||◌, List, [], ◌∷◌, ◌++◌, map, length}
use Rattle.std.proofs.Common.{Option, Some, None, option_map, option_to_list, is_none, is_some, refl, nat_eq, nat_lt}
use Rattle.std.specs.Prelude.{◌==◌, if◌then◌else◌, filter, find, flat_map, bytes_eq, codes, unwrap_or, Ok}
use Rattle.std.specs.Option.{option_eq}
use Rattle.url.specs.Parts.{Parts}
use Rattle.bidi_tree.specs.Node.{Node, null, text, no_members}
use Rattle.bidi_scripts.specs.declared.log_entry.Level.{Level}
use Rattle.bidi_params.specs.declared.error_code.ErrorCode.TheVariants.{InvalidArgument, NoSuchFrame, NoSuchHistoryEntry}
use Rattle.bidi_params.specs.declared.error_code.ErrorCode.TheVariants.{NoSuchUserContext, UnknownError, UnsupportedOperation}
use Rattle.bidi_handles.specs.Checks.{◌>>=◌, need, found}
use Rattle.bidi_methods.specs.declared.event_data.EventName.{EventName}
use Rattle.bidi_methods.specs.declared.event_data.EventName.TheVariants.{ContextCreated, ContextDestroyed, NavigationStarted}
use Rattle.bidi_methods.specs.declared.event_data.EventName.TheVariants.{DomContentLoaded, Load, RealmCreated, RealmDestroyed, EntryAdded}
use Rattle.bidi_handles.specs.declared.id.IdKind.{IdKind}
use Rattle.bidi_handles.specs.declared.id.IdKind.TheVariants.{Context, Realm, Navigation, Handle, Window, UserContext}
use Rattle.bidi_handles.specs.Ids.{id_of, has_id}
use Rattle.bidi_handles.specs.Maps.{◌being◌and◌, mapped, listed, nothing, word, number, id_tree}
use Rattle.bidi_handles.specs.Params.{text_at}
use Rattle.bidi_values.specs.Cut.{cut_to}
use Rattle.bidi_handles.specs.Values.{with_member, argument, arguments, takes_handle}
use Rattle.bidi_contexts.specs.Urls.{url_text, origin_text, about_blank, parsed}
use Rattle.bidi_contexts.specs.Acts.{Act, Made, Framed, Removed, Moved, Logged, Tabled, Ran, Disowned, UserMade, UserRemoved, Looked, Move, To, Again, Across}
use Rattle.bidi_contexts.specs.Acts.{Ending, Returned, Threw, given, gives, next_number}
use Rattle.bidi_contexts.specs.Actions.{CreateType, Tab, OwnWindow, Target, ContextTarget, RealmTarget, Wait, Action, Activate, Close, Create, GetTree}
use Rattle.bidi_contexts.specs.Actions.{Navigate, Reload, TraverseHistory, Evaluate, CallFunction, Disown, GetRealms, CreateUserContext, GetUserContexts}
use Rattle.bidi_contexts.specs.Actions.{RemoveUserContext, Frame, Unframe, Log, TableRow}
use Rattle.bidi_contexts.specs.Contexts.{parent_of, top_of, level_of, is_under, window_of, user_of, is_gone, is_alive, up_to, contexts, context_of}
use Rattle.bidi_contexts.specs.Contexts.{tops, tops_in, children_of, subtree_within, subtree_of, tree_order}
use Rattle.bidi_contexts.specs.Users.{is_removed, others, users, user_id, user_info}
use Rattle.bidi_contexts.specs.Places.{begun_at, moved, entries_of, present, url_of, place_across}
use Rattle.bidi_contexts.specs.Realms.{realm_of, realms, value_of, handles_of, held_value, row_of, tabled_texts}
use Rattle.bidi_contexts.specs.Info.{parent_tree, children_tree, depth_below, info_members, info_within, info_of}
use Rattle.bidi_contexts.specs.Occurrences.{top_at, occurrence, context_created, context_destroyed, realm_info, realm_created, realm_destroyed}
use Rattle.bidi_contexts.specs.Occurrences.{tree_events, removal, navigation_event, console_entry, entry_added}
use Rattle.bidi_browser.specs.Occurs.{Item, Happens, Replies, birth, removal_reply, created_result, wait_in, depth_in, navigated_result, unloading, replying}
use Rattle.bidi_browser.specs.Occurs.{led_to, navigating, navigation, shown, exception_details, script_result, roots, realm_holders}
use Rattle.bidi_browser.specs.Occurs.{takes_windows, looked_result, occurs}
use Rattle.bidi_contexts.specs.Outcome.{context_named, top_named, top_if_named, user_checked, oldest_window, window_for, has_room, create_outcome}
use Rattle.bidi_contexts.specs.Outcome.{create_user_outcome, remove_user_outcome}
use Rattle.bidi_contexts.specs.Outcome.{close_outcome, looked, looked_at, frame_outcome, unframe_outcome, navigate_outcome, reload_outcome}
use Rattle.bidi_contexts.specs.Outcome.{traverse_outcome, realm_targeted, ending_outcome, ending_of, evaluate_outcome, this_resolved, call_outcome}
use Rattle.bidi_contexts.specs.Outcome.{disown_outcome, log_outcome, row_in, may_say, takes_row, row_checked, row_outcome, outcome}

-- the past without the acts that only looked
abbrev pub unlooked : List Act → List Act
unlooked [] = []
unlooked (Looked ∷ past) = unlooked past
unlooked (act ∷ past) = act ∷ unlooked past

-- ---- numbers

-- a look gives out no id
gives-looked : (kind : IdKind) → gives kind Looked ≡ false
gives-looked Context = refl
gives-looked kind = refl

pub given-unlooked : (past : List Act) (kind : IdKind) → given (unlooked past) kind ≡ given past kind
given-unlooked [] kind = refl
given-unlooked (Looked ∷ past) kind = rw (gives-looked kind) (given-unlooked past kind)
given-unlooked (act ∷ past) kind = λ i. if gives kind act then suc (given-unlooked past kind i) else given-unlooked past kind i

pub next-unlooked : (past : List Act) (kind : IdKind) → next_number (unlooked past) kind ≡ next_number past kind
next-unlooked past kind = λ i. suc (given-unlooked past kind i)

-- ---- contexts

pub parent_of-unlooked : (past : List Act) (c : ℕ) → parent_of (unlooked past) c ≡ parent_of past c
parent_of-unlooked [] c = refl
parent_of-unlooked (Looked ∷ past) c = parent_of-unlooked past c
parent_of-unlooked (Framed p url ∷ past) c = λ i. if c == next-unlooked past Context i then Some p else parent_of-unlooked past c i
parent_of-unlooked (act ∷ past) c = parent_of-unlooked past c

pub top_of-unlooked : (past : List Act) (c : ℕ) → top_of (unlooked past) c ≡ top_of past c
top_of-unlooked [] c = refl
top_of-unlooked (Looked ∷ past) c = top_of-unlooked past c
top_of-unlooked (Framed p url ∷ past) c = λ i. if c == next-unlooked past Context i then top_of-unlooked past p i else top_of-unlooked past c i
top_of-unlooked (act ∷ past) c = top_of-unlooked past c

level_of-unlooked : (past : List Act) (c : ℕ) → level_of (unlooked past) c ≡ level_of past c
level_of-unlooked [] c = refl
level_of-unlooked (Looked ∷ past) c = level_of-unlooked past c
level_of-unlooked (Framed p url ∷ past) c =
    λ i. if c == next-unlooked past Context i then suc (level_of-unlooked past p i) else level_of-unlooked past c i
level_of-unlooked (act ∷ past) c = level_of-unlooked past c

is_under-unlooked : (past : List Act) (a c : ℕ) → is_under (unlooked past) a c ≡ is_under past a c
is_under-unlooked [] a c = refl
is_under-unlooked (Looked ∷ past) a c = is_under-unlooked past a c
is_under-unlooked (Framed p url ∷ past) a c =
    λ i. if c == next-unlooked past Context i then a == c || is_under-unlooked past a p i else is_under-unlooked past a c i
is_under-unlooked (act ∷ past) a c = is_under-unlooked past a c

window_of-unlooked : (past : List Act) (c : ℕ) → window_of (unlooked past) c ≡ window_of past c
window_of-unlooked [] c = refl
window_of-unlooked (Looked ∷ past) c = window_of-unlooked past c
window_of-unlooked (Made w u ∷ past) c =
    λ i. if c == next-unlooked past Context i then unwrap_or w (next-unlooked past Window i) else window_of-unlooked past c i
window_of-unlooked (Framed p url ∷ past) c =
    λ i. if c == next-unlooked past Context i then window_of-unlooked past p i else window_of-unlooked past c i
window_of-unlooked (act ∷ past) c = window_of-unlooked past c

user_of-unlooked : (past : List Act) (c : ℕ) → user_of (unlooked past) c ≡ user_of past c
user_of-unlooked [] c = refl
user_of-unlooked (Looked ∷ past) c = user_of-unlooked past c
user_of-unlooked (Made w u ∷ past) c = λ i. if c == next-unlooked past Context i then u else user_of-unlooked past c i
user_of-unlooked (Framed p url ∷ past) c = λ i. if c == next-unlooked past Context i then user_of-unlooked past p i else user_of-unlooked past c i
user_of-unlooked (act ∷ past) c = user_of-unlooked past c

is_gone-unlooked : (past : List Act) (c : ℕ) → is_gone (unlooked past) c ≡ is_gone past c
is_gone-unlooked [] c = refl
is_gone-unlooked (Looked ∷ past) c = is_gone-unlooked past c
is_gone-unlooked (Removed a ∷ past) c = λ i. is_under-unlooked past a c i || is_gone-unlooked past c i
is_gone-unlooked (Moved a move ∷ past) c = λ i. (is_under-unlooked past a c i && not (a == c)) || is_gone-unlooked past c i
is_gone-unlooked (UserRemoved u ∷ past) c = λ i. user_of-unlooked past c i == u || is_gone-unlooked past c i
is_gone-unlooked (act ∷ past) c = is_gone-unlooked past c

pub is_alive-unlooked : (past : List Act) (c : ℕ) → is_alive (unlooked past) c ≡ is_alive past c
is_alive-unlooked past c = λ i. (nat_lt 0 c && nat_lt c (next-unlooked past Context i)) && not (is_gone-unlooked past c i)

contexts-unlooked : (past : List Act) → contexts (unlooked past) ≡ contexts past
contexts-unlooked past = λ i. filter (λ c. is_alive-unlooked past c i) (up_to (given-unlooked past Context i))

context_of-unlooked : (past : List Act) (id : List ℕ) → context_of (unlooked past) id ≡ context_of past id
context_of-unlooked past id = λ i. find (λ c. bytes_eq id (id_of Context c)) (contexts-unlooked past i)

tops-unlooked : (past : List Act) → tops (unlooked past) ≡ tops past
tops-unlooked past = λ i. filter (λ c. is_none (parent_of-unlooked past c i)) (contexts-unlooked past i)

tops_in-unlooked : (past : List Act) (u : ℕ) → tops_in (unlooked past) u ≡ tops_in past u
tops_in-unlooked past u = λ i. filter (λ c. user_of-unlooked past c i == u) (tops-unlooked past i)

children_of-unlooked : (past : List Act) (c : ℕ) → children_of (unlooked past) c ≡ children_of past c
children_of-unlooked past c = λ i. filter (λ d. option_eq nat_eq (parent_of-unlooked past d i) (Some c)) (contexts-unlooked past i)

subtree_within-unlooked : (n : ℕ) (past : List Act) (c : ℕ) → subtree_within n (unlooked past) c ≡ subtree_within n past c
subtree_within-unlooked zero past c = refl
subtree_within-unlooked (suc n) past c = λ i. c ∷ flat_map (λ d. subtree_within-unlooked n past d i) (children_of-unlooked past c i)

subtree_of-unlooked : (past : List Act) (c : ℕ) → subtree_of (unlooked past) c ≡ subtree_of past c
subtree_of-unlooked past c = subtree_within-unlooked 16 past c

tree_order-unlooked : (past : List Act) → tree_order (unlooked past) ≡ tree_order past
tree_order-unlooked past = λ i. flat_map (λ c. subtree_of-unlooked past c i) (tops-unlooked past i)

-- ---- user contexts

is_removed-unlooked : (past : List Act) (u : ℕ) → is_removed (unlooked past) u ≡ is_removed past u
is_removed-unlooked [] u = refl
is_removed-unlooked (Looked ∷ past) u = is_removed-unlooked past u
is_removed-unlooked (UserRemoved v ∷ past) u = λ i. u == v || is_removed-unlooked past u i
is_removed-unlooked (act ∷ past) u = is_removed-unlooked past u

others-unlooked : (past : List Act) → others (unlooked past) ≡ others past
others-unlooked past = λ i. filter (λ u. not (is_removed-unlooked past u i)) (up_to (given-unlooked past UserContext i))

users-unlooked : (past : List Act) → users (unlooked past) ≡ users past
users-unlooked past = λ i. 0 ∷ others-unlooked past i

pub user_checked-unlooked : (past : List Act) (id : List ℕ) → user_checked (unlooked past) id ≡ user_checked past id
user_checked-unlooked past id = λ i. found (find (λ u. bytes_eq id (user_id u)) (users-unlooked past i)) NoSuchUserContext

-- ---- places

entries_of-unlooked : (past : List Act) (c : ℕ) → entries_of (unlooked past) c ≡ entries_of past c
entries_of-unlooked [] c = refl
entries_of-unlooked (Looked ∷ past) c = entries_of-unlooked past c
entries_of-unlooked (Made w u ∷ past) c = λ i. if c == next-unlooked past Context i then begun_at about_blank else entries_of-unlooked past c i
entries_of-unlooked (Framed p url ∷ past) c = λ i. if c == next-unlooked past Context i then begun_at url else entries_of-unlooked past c i
entries_of-unlooked (Moved d move ∷ past) c = λ i. if c == d then moved (entries_of-unlooked past c i) move else entries_of-unlooked past c i
entries_of-unlooked (act ∷ past) c = entries_of-unlooked past c

url_of-unlooked : (past : List Act) (c : ℕ) → url_of (unlooked past) c ≡ url_of past c
url_of-unlooked past c = λ i. present (entries_of-unlooked past c i)

-- ---- realms

realm_of-unlooked : (past : List Act) (c : ℕ) → realm_of (unlooked past) c ≡ realm_of past c
realm_of-unlooked [] c = refl
realm_of-unlooked (Looked ∷ past) c = realm_of-unlooked past c
realm_of-unlooked (Made w u ∷ past) c = λ i. if c == next-unlooked past Context i then next-unlooked past Realm i else realm_of-unlooked past c i
realm_of-unlooked (Framed p url ∷ past) c = λ i. if c == next-unlooked past Context i then next-unlooked past Realm i else realm_of-unlooked past c i
realm_of-unlooked (Moved d move ∷ past) c = λ i. if c == d then next-unlooked past Realm i else realm_of-unlooked past c i
realm_of-unlooked (act ∷ past) c = realm_of-unlooked past c

realms-unlooked : (past : List Act) → realms (unlooked past) ≡ realms past
realms-unlooked past = λ i. map (λ c. realm_of-unlooked past c i) (contexts-unlooked past i)

handles_of-unlooked : (past : List Act) (r : ℕ) → handles_of (unlooked past) r ≡ handles_of past r
handles_of-unlooked [] r = refl
handles_of-unlooked (Looked ∷ past) r = handles_of-unlooked past r
handles_of-unlooked (Ran q ending true ∷ past) r =
    λ i. if q == r then handles_of-unlooked past r i ++ (next-unlooked past Handle i, value_of ending) ∷ [] else handles_of-unlooked past r i
handles_of-unlooked (Disowned q ids ∷ past) r =
    λ i. if q == r then filter (λ held. not (has_id ids held.0)) (handles_of-unlooked past r i) else handles_of-unlooked past r i
handles_of-unlooked (act ∷ past) r = handles_of-unlooked past r

held_value-unlooked : (past : List Act) (r : ℕ) (id : List ℕ) → held_value (unlooked past) r id ≡ held_value past r id
held_value-unlooked past r id = λ i. option_map (λ held. held.1) (find (λ held. bytes_eq id (id_of Handle held.0)) (handles_of-unlooked past r i))

row_of-unlooked : (past : List Act) (s : List ℕ) → row_of (unlooked past) s ≡ row_of past s
row_of-unlooked [] s = refl
row_of-unlooked (Looked ∷ past) s = row_of-unlooked past s
row_of-unlooked (Tabled t row ∷ past) s = λ i. if bytes_eq t s then Some row else row_of-unlooked past s i
row_of-unlooked (act ∷ past) s = row_of-unlooked past s

tabled_texts-unlooked : (past : List Act) → tabled_texts (unlooked past) ≡ tabled_texts past
tabled_texts-unlooked [] = refl
tabled_texts-unlooked (Looked ∷ past) = tabled_texts-unlooked past
tabled_texts-unlooked (Tabled t row ∷ past) =
    λ i. if is_some (row_of-unlooked past t i) then tabled_texts-unlooked past i else t ∷ tabled_texts-unlooked past i
tabled_texts-unlooked (act ∷ past) = tabled_texts-unlooked past

-- ---- what is told

info_members-unlooked : (past : List Act) (c : ℕ) (children : Node) → info_members (unlooked past) c children ≡ info_members past c children
info_members-unlooked past c children =
    λ i. "children" being children and
    "clientWindow" being id_tree Window (window_of-unlooked past c i) and
    "context" being id_tree Context c and
    "originalOpener" being null and
    "url" being text (url_text (url_of-unlooked past c i)) and
    "userContext" being text (user_id (user_of-unlooked past c i)) and no_members

info_within-unlooked : (n : ℕ) (past : List Act) (depth : Option ℕ) (c : ℕ) → info_within n (unlooked past) depth c ≡ info_within n past depth c
info_within-unlooked zero past depth c = refl
info_within-unlooked (suc n) past depth c =
    λ i. mapped (info_members-unlooked past c
    (children_tree depth (map (λ d. info_within-unlooked n past (depth_below depth) d i) (children_of-unlooked past c i))) i)

info_of-unlooked : (past : List Act) (depth : Option ℕ) (c : ℕ) → info_of (unlooked past) depth c ≡ info_of past depth c
info_of-unlooked past depth c =
    λ i. mapped ("parent" being parent_tree (parent_of-unlooked past c i) and
    info_members-unlooked past c
    (children_tree depth (map (λ d. info_within-unlooked 16 past (depth_below depth) d i) (children_of-unlooked past c i))) i)

pub top_at-unlooked : (past : List Act) (c : ℕ) → top_at (unlooked past) c ≡ top_at past c
top_at-unlooked past c = λ i. record { number = top_of-unlooked past c i; user = user_of-unlooked past c i }

occurrence-unlooked : (past : List Act) (c : ℕ) (event : EventName) (params : Node) → occurrence (unlooked past) c event params ≡ occurrence past c event params
occurrence-unlooked past c event params = λ i. record { event = event; context = c; top = top_at-unlooked past c i; params = params }

context_created-unlooked : (past : List Act) (c : ℕ) → context_created (unlooked past) c ≡ context_created past c
context_created-unlooked past c = λ i. occurrence-unlooked past c ContextCreated (info_of-unlooked past (Some 0) c i) i

context_destroyed-unlooked : (past : List Act) (c : ℕ) → context_destroyed (unlooked past) c ≡ context_destroyed past c
context_destroyed-unlooked past c = λ i. occurrence-unlooked past c ContextDestroyed (info_of-unlooked past None c i) i

realm_info-unlooked : (past : List Act) (c : ℕ) → realm_info (unlooked past) c ≡ realm_info past c
realm_info-unlooked past c =
    λ i. mapped (
    "realm" being id_tree Realm (realm_of-unlooked past c i) and
    "origin" being text (origin_text (url_of-unlooked past c i)) and
    "type" being word "window" and
    "context" being id_tree Context c and no_members)

realm_created-unlooked : (past : List Act) (c : ℕ) → realm_created (unlooked past) c ≡ realm_created past c
realm_created-unlooked past c = λ i. occurrence-unlooked past c RealmCreated (realm_info-unlooked past c i) i

realm_destroyed-unlooked : (past : List Act) (c : ℕ) → realm_destroyed (unlooked past) c ≡ realm_destroyed past c
realm_destroyed-unlooked past c =
    λ i. occurrence-unlooked past c RealmDestroyed (mapped ("realm" being id_tree Realm (realm_of-unlooked past c i) and no_members)) i

pub tree_events-unlooked : (past : List Act) → tree_events (unlooked past) ≡ tree_events past
tree_events-unlooked past =
    λ i. map (λ c. context_created-unlooked past c i) (tree_order-unlooked past i) ++ map (λ c. realm_created-unlooked past c i) (tree_order-unlooked past i)

removal-unlooked : (past : List Act) (c : ℕ) → removal (unlooked past) c ≡ removal past c
removal-unlooked past c = λ i. map (λ d. realm_destroyed-unlooked past d i) (subtree_of-unlooked past c i) ++ context_destroyed-unlooked past c i ∷ []

navigation_event-unlooked : (past : List Act) (moment c : ℕ) (url : Parts) (event : EventName)
    → navigation_event (unlooked past) moment c url event ≡ navigation_event past moment c url event
navigation_event-unlooked past moment c url event =
    λ i. occurrence-unlooked past c event (mapped (
    "context" being id_tree Context c and
    "navigation" being id_tree Navigation (next-unlooked past Navigation i) and
    "timestamp" being number moment and
    "url" being text (url_text url) and no_members)) i

pub entry_added-unlooked : (past : List Act) (moment c : ℕ) (level : Level) (line : List ℕ)
    → entry_added (unlooked past) moment c level line ≡ entry_added past moment c level line
entry_added-unlooked past moment c level line =
    λ i. occurrence-unlooked past c EntryAdded (console_entry moment c (realm_of-unlooked past c i) level line) i

-- ---- what an act brings about

birth-made : (past : List Act) (w : Option ℕ) (u : ℕ) → birth (unlooked past) (Made w u) ≡ birth past (Made w u)
birth-made past w u =
    λ i. Happens (context_created-unlooked (Made w u ∷ past) (next-unlooked past Context i) i)
    ∷ Happens (realm_created-unlooked (Made w u ∷ past) (next-unlooked past Context i) i) ∷ []

birth-framed : (past : List Act) (p : ℕ) (url : Parts) → birth (unlooked past) (Framed p url) ≡ birth past (Framed p url)
birth-framed past p url =
    λ i. Happens (context_created-unlooked (Framed p url ∷ past) (next-unlooked past Context i) i)
    ∷ Happens (realm_created-unlooked (Framed p url ∷ past) (next-unlooked past Context i) i) ∷ []

created_result-unlooked : (past : List Act) → created_result (unlooked past) ≡ created_result past
created_result-unlooked past = λ i. mapped ("context" being id_tree Context (next-unlooked past Context i) and no_members)

navigated_result-unlooked : (past : List Act) (url : Parts) (move : Move) → navigated_result (unlooked past) url move ≡ navigated_result past url move
navigated_result-unlooked past url (Across place) = refl
navigated_result-unlooked past url move =
    λ i. mapped (
    "navigation" being id_tree Navigation (next-unlooked past Navigation i) and
    "url" being text (url_text url) and no_members)

unloading-unlooked : (past : List Act) (c : ℕ) (move : Move) → unloading (unlooked past) (Moved c move) c ≡ unloading past (Moved c move) c
unloading-unlooked past c move =
    λ i. map Happens (flat_map (λ d. removal-unlooked past d i) (children_of-unlooked past c i))
    ++ Happens (realm_destroyed-unlooked past c i) ∷ Happens (realm_created-unlooked (Moved c move ∷ past) c i) ∷ []

led_to-unlooked : (past : List Act) (c : ℕ) (move : Move) → led_to (unlooked past) c move ≡ led_to past c move
led_to-unlooked past c move = λ i. present (moved (entries_of-unlooked past c i) move)

navigating-unlooked : (past : List Act) (moment : ℕ) (wait : Wait) (c : ℕ) (move : Move) (reply : Item)
    → navigating (unlooked past) moment wait c move reply ≡ navigating past moment wait c move reply
navigating-unlooked past moment wait c move reply =
    λ i. let url = led_to-unlooked past c move i in
    replying wait reply
    (Happens (navigation_event-unlooked past moment c url NavigationStarted i))
    (unloading-unlooked past c move i)
    (Happens (navigation_event-unlooked past moment c url DomContentLoaded i))
    (Happens (navigation_event-unlooked past moment c url Load i))

navigation-unlooked : (past : List Act) (moment : ℕ) (wait : Wait) (c : ℕ) (move : Move)
    → navigation (unlooked past) moment wait c move ≡ navigation past moment wait c move
navigation-unlooked past moment wait c move =
    λ i. navigating-unlooked past moment wait c move (Replies (navigated_result-unlooked past (led_to-unlooked past c move i) move i)) i

shown-unlooked : (past : List Act) (held : Bool) (value : Node) → shown (unlooked past) held value ≡ shown past held value
shown-unlooked past true value = λ i. with_member "handle" (id_tree Handle (next-unlooked past Handle i)) value
shown-unlooked past false value = refl

script_result-unlooked : (past : List Act) (r : ℕ) (depth : Option ℕ) (ending : Ending) (held : Bool)
    → script_result (unlooked past) r depth ending held ≡ script_result past r depth ending held
script_result-unlooked past r depth (Returned value) held =
    λ i. mapped (
    "type" being word "success" and
    "result" being shown-unlooked past held (cut_to depth value) i and
    "realm" being id_tree Realm r and no_members)
script_result-unlooked past r depth (Threw value) held =
    λ i. mapped (
    "type" being word "exception" and
    "exceptionDetails" being exception_details (shown-unlooked past held (cut_to depth value) i) and
    "realm" being id_tree Realm r and no_members)

roots-unlooked : (past : List Act) (root : Option (List ℕ)) → roots (unlooked past) root ≡ roots past root
roots-unlooked past None = tops-unlooked past
roots-unlooked past (Some id) = λ i. option_to_list (context_of-unlooked past id i)

realm_holders-unlooked : (past : List Act) (context : Option (List ℕ)) (windows : Bool)
    → realm_holders (unlooked past) context windows ≡ realm_holders past context windows
realm_holders-unlooked past context false = refl
realm_holders-unlooked past None true = tree_order-unlooked past
realm_holders-unlooked past (Some id) true = λ i. option_to_list (context_of-unlooked past id i)

looked_result-unlooked : (past : List Act) (action : Action) → looked_result (unlooked past) action ≡ looked_result past action
looked_result-unlooked past (GetTree depth root) =
    λ i. mapped ("contexts" being listed (map (λ c. info_of-unlooked past depth c i) (roots-unlooked past root i)) and no_members)
looked_result-unlooked past (GetRealms context type) =
    λ i. mapped ("realms" being listed (map (λ c. realm_info-unlooked past c i) (realm_holders-unlooked past context (takes_windows type) i)) and no_members)
looked_result-unlooked past GetUserContexts = λ i. mapped ("userContexts" being listed (map user_info (users-unlooked past i)) and no_members)
looked_result-unlooked past action = refl

pub occurs-unlooked : (past : List Act) (moment : ℕ) (action : Action) (act : Act) → occurs (unlooked past) moment action act ≡ occurs past moment action act
occurs-unlooked past moment action (Made w u) = λ i. birth-made past w u i ++ Replies (created_result-unlooked past i) ∷ []
occurs-unlooked past moment action (Framed p url) = birth-framed past p url
occurs-unlooked past moment action (Removed c) = λ i. map Happens (removal-unlooked past c i) ++ removal_reply action
occurs-unlooked past moment action (Moved c move) = navigation-unlooked past moment (wait_in action) c move
occurs-unlooked past moment action (Logged c level line) = λ i. Happens (entry_added-unlooked past moment c level line i) ∷ []
occurs-unlooked past moment action (Tabled t row) = refl
occurs-unlooked past moment action (Ran r ending held) = λ i. Replies (script_result-unlooked past r (depth_in action) ending held i) ∷ []
occurs-unlooked past moment action (Disowned r ids) = refl
occurs-unlooked past moment action UserMade = λ i. Replies (user_info (next-unlooked past UserContext i)) ∷ []
occurs-unlooked past moment action (UserRemoved u) =
    λ i. map Happens (flat_map (λ c. removal-unlooked past c i) (tops_in-unlooked past u i)) ++ Replies nothing ∷ []
occurs-unlooked past moment action Looked = λ i. Replies (looked_result-unlooked past action i) ∷ []

-- ---- what an action does

pub context_named-unlooked : (past : List Act) (id : List ℕ) → context_named (unlooked past) id ≡ context_named past id
context_named-unlooked past id = λ i. found (context_of-unlooked past id i) NoSuchFrame

top_named-unlooked : (past : List Act) (id : List ℕ) → top_named (unlooked past) id ≡ top_named past id
top_named-unlooked past id = λ i. do
  c ← context_named-unlooked past id i
  top ← need (is_none (parent_of-unlooked past c i)) InvalidArgument
  Ok c

top_if_named-unlooked : (past : List Act) (id : Option (List ℕ)) → top_if_named (unlooked past) id ≡ top_if_named past id
top_if_named-unlooked past None = refl
top_if_named-unlooked past (Some id) = λ i. do
  c ← top_named-unlooked past id i
  Ok (Some c)

oldest_window-unlooked : (past : List Act) (cs : List ℕ) → oldest_window (unlooked past) cs ≡ oldest_window past cs
oldest_window-unlooked past [] = refl
oldest_window-unlooked past (c ∷ cs) = λ i. Some (window_of-unlooked past c i)

window_for-unlooked : (past : List Act) (type : CreateType) (reference : Option ℕ) → window_for (unlooked past) type reference ≡ window_for past type reference
window_for-unlooked past OwnWindow reference = refl
window_for-unlooked past Tab (Some c) = λ i. Some (window_of-unlooked past c i)
window_for-unlooked past Tab None = λ i. oldest_window-unlooked past (tops-unlooked past i) i

has_room-unlooked : (past : List Act) → has_room (unlooked past) ≡ has_room past
has_room-unlooked past = λ i. nat_lt (length (contexts-unlooked past i)) 1024

create_outcome-unlooked : (past : List Act) (type : CreateType) (reference user : Option (List ℕ))
    → create_outcome (unlooked past) type reference user ≡ create_outcome past type reference user
create_outcome-unlooked past type reference user = λ i. do
  c ← top_if_named-unlooked past reference i
  u ← user_checked-unlooked past (unwrap_or user (codes "default")) i
  room ← need (has_room-unlooked past i) UnknownError
  Ok (Made (window_for-unlooked past type c i) u)

close_outcome-unlooked : (past : List Act) (id : List ℕ) → close_outcome (unlooked past) id ≡ close_outcome past id
close_outcome-unlooked past id = λ i. do
  c ← top_named-unlooked past id i
  Ok (Removed c)

looked_at-unlooked : (past : List Act) (id : Option (List ℕ)) → looked_at (unlooked past) id ≡ looked_at past id
looked_at-unlooked past None = refl
looked_at-unlooked past (Some id) = λ i. looked (context_named-unlooked past id i)

frame_outcome-unlooked : (past : List Act) (id address : List ℕ) → frame_outcome (unlooked past) id address ≡ frame_outcome past id address
frame_outcome-unlooked past id address = λ i. do
  c ← context_named-unlooked past id i
  url ← found (parsed address) InvalidArgument
  room ← need (has_room-unlooked past i) UnknownError
  high ← need (nat_lt (level_of-unlooked past c i) 16) UnknownError
  Ok (Framed c url)

unframe_outcome-unlooked : (past : List Act) (id : List ℕ) → unframe_outcome (unlooked past) id ≡ unframe_outcome past id
unframe_outcome-unlooked past id = λ i. do
  c ← context_named-unlooked past id i
  child ← need (is_some (parent_of-unlooked past c i)) InvalidArgument
  Ok (Removed c)

navigate_outcome-unlooked : (past : List Act) (id address : List ℕ) → navigate_outcome (unlooked past) id address ≡ navigate_outcome past id address
navigate_outcome-unlooked past id address = λ i. do
  c ← context_named-unlooked past id i
  url ← found (parsed address) InvalidArgument
  Ok (Moved c (To url))

reload_outcome-unlooked : (past : List Act) (id : List ℕ) → reload_outcome (unlooked past) id ≡ reload_outcome past id
reload_outcome-unlooked past id = λ i. do
  c ← context_named-unlooked past id i
  Ok (Moved c Again)

traverse_outcome-unlooked : (past : List Act) (id : List ℕ) (delta : ℤ) → traverse_outcome (unlooked past) id delta ≡ traverse_outcome past id delta
traverse_outcome-unlooked past id delta = λ i. do
  c ← top_named-unlooked past id i
  place ← found (place_across (entries_of-unlooked past c i) delta) NoSuchHistoryEntry
  Ok (Moved c (Across place))

realm_targeted-unlooked : (past : List Act) (target : Target) → realm_targeted (unlooked past) target ≡ realm_targeted past target
realm_targeted-unlooked past (ContextTarget id sandbox) = λ i. do
  c ← context_named-unlooked past id i
  no_sandbox ← need (bytes_eq sandbox []) UnsupportedOperation
  Ok (realm_of-unlooked past c i)
realm_targeted-unlooked past (RealmTarget id) = λ i. found (find (λ r. bytes_eq id (id_of Realm r)) (realms-unlooked past i)) NoSuchFrame

ending_outcome-unlooked : (past : List Act) (r : ℕ) (owned : Bool) (ending : Ending)
    → ending_outcome (unlooked past) r owned ending ≡ ending_outcome past r owned ending
ending_outcome-unlooked past r owned ending =
    λ i. let held = owned && takes_handle (value_of ending) in do
      room ← need (not held || nat_lt (length (handles_of-unlooked past r i)) 1000) UnknownError
      Ok (Ran r ending held)

evaluate_outcome-unlooked : (past : List Act) (expression : List ℕ) (target : Target) (owned : Bool)
    → evaluate_outcome (unlooked past) expression target owned ≡ evaluate_outcome past expression target owned
evaluate_outcome-unlooked past expression target owned = λ i. do
  r ← realm_targeted-unlooked past target i
  row ← found (row_of-unlooked past expression i) UnsupportedOperation
  ending_outcome-unlooked past r owned (ending_of row []) i

this_resolved-unlooked : (past : List Act) (r : ℕ) (this : Option Node) → this_resolved (unlooked past) r this ≡ this_resolved past r this
this_resolved-unlooked past r None = refl
this_resolved-unlooked past r (Some value) = λ i. do
  v ← argument (λ id. held_value-unlooked past r id i) value
  Ok (Some v)

call_outcome-unlooked : (past : List Act) (declaration : List ℕ) (target : Target) (values : List Node) (this : Option Node) (owned : Bool)
    → call_outcome (unlooked past) declaration target values this owned ≡ call_outcome past declaration target values this owned
call_outcome-unlooked past declaration target values this owned = λ i. do
  r ← realm_targeted-unlooked past target i
  resolved ← arguments (λ id. held_value-unlooked past r id i) values
  self ← this_resolved-unlooked past r this i
  row ← found (row_of-unlooked past declaration i) UnsupportedOperation
  ending_outcome-unlooked past r owned (ending_of row resolved) i

disown_outcome-unlooked : (past : List Act) (ids : List (List ℕ)) (target : Target) → disown_outcome (unlooked past) ids target ≡ disown_outcome past ids target
disown_outcome-unlooked past ids target = λ i. do
  r ← realm_targeted-unlooked past target i
  Ok (Disowned r ids)

log_outcome-unlooked : (past : List Act) (id : List ℕ) (level : Level) (line : List ℕ) → log_outcome (unlooked past) id level line ≡ log_outcome past id level line
log_outcome-unlooked past id level line = λ i. do
  c ← context_named-unlooked past id i
  Ok (Logged c level line)

takes_row-unlooked : (past : List Act) (script : List ℕ) → takes_row (unlooked past) script ≡ takes_row past script
takes_row-unlooked past script = λ i. is_some (row_of-unlooked past script i) || nat_lt (length (tabled_texts-unlooked past i)) 1024

row_checked-unlooked : (past : List Act) (t : Node) → row_checked (unlooked past) t ≡ row_checked past t
row_checked-unlooked past t = λ i. do
  fit ← need (may_say (row_in t)) InvalidArgument
  need (takes_row-unlooked past (text_at "text" t) i) UnknownError

row_outcome-unlooked : (past : List Act) (row : Option Node) → row_outcome (unlooked past) row ≡ row_outcome past row
row_outcome-unlooked past row = λ i. do
  t ← found row InvalidArgument
  checked ← row_checked-unlooked past t i
  Ok (Tabled (text_at "text" t) (row_in t))

create_user_outcome-unlooked : (past : List Act) → create_user_outcome (unlooked past) ≡ create_user_outcome past
create_user_outcome-unlooked past = λ i. do
  room ← need (nat_lt (length (others-unlooked past i)) 64) UnknownError
  Ok UserMade

remove_user_outcome-unlooked : (past : List Act) (id : List ℕ) → remove_user_outcome (unlooked past) id ≡ remove_user_outcome past id
remove_user_outcome-unlooked past id = λ i. do
  other ← need (not (bytes_eq id (codes "default"))) InvalidArgument
  u ← user_checked-unlooked past id i
  Ok (UserRemoved u)

pub outcome-unlooked : (past : List Act) (action : Action) → outcome (unlooked past) action ≡ outcome past action
outcome-unlooked past (Activate id) = λ i. looked (top_named-unlooked past id i)
outcome-unlooked past (Close id) = close_outcome-unlooked past id
outcome-unlooked past (Create type reference user) = create_outcome-unlooked past type reference user
outcome-unlooked past (GetTree depth root) = looked_at-unlooked past root
outcome-unlooked past (Navigate id address wait) = navigate_outcome-unlooked past id address
outcome-unlooked past (Reload id wait) = reload_outcome-unlooked past id
outcome-unlooked past (TraverseHistory id delta) = traverse_outcome-unlooked past id delta
outcome-unlooked past (Evaluate expression target owned depth) = evaluate_outcome-unlooked past expression target owned
outcome-unlooked past (CallFunction declaration target values this owned depth) = call_outcome-unlooked past declaration target values this owned
outcome-unlooked past (Disown ids target) = disown_outcome-unlooked past ids target
outcome-unlooked past (GetRealms context type) = looked_at-unlooked past context
outcome-unlooked past CreateUserContext = create_user_outcome-unlooked past
outcome-unlooked past GetUserContexts = refl
outcome-unlooked past (RemoveUserContext id) = remove_user_outcome-unlooked past id
outcome-unlooked past (Frame id address) = frame_outcome-unlooked past id address
outcome-unlooked past (Unframe id) = unframe_outcome-unlooked past id
outcome-unlooked past (Log id level line) = log_outcome-unlooked past id level line
outcome-unlooked past (TableRow row) = row_outcome-unlooked past row
