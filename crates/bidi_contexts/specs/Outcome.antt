-- What the browser does at an action: its checks in order, and its act if none fails. After WebDriver BiDi, the commands of "The browsingContext Module",
-- "The script Module" and "The browser Module".
use Rattle.std.specs.Prelude.{ℕ, nat_lt, nat_le, ℤ, Bool, true, not, ◌&&◌, ◌||◌, List, [], ◌∷◌, length, find, slice_get}
use Rattle.std.specs.Prelude.{codes, bytes_eq, Option, Some, None, is_none, is_some, unwrap_or, Result, Ok, Err}
use Rattle.bidi_tree.specs.Node.{Node, levels, no_members}
use Rattle.bidi_params.specs.declared.error_code.ErrorCode.{ErrorCode}
use Rattle.bidi_params.specs.declared.error_code.ErrorCode.TheVariants.{InvalidArgument, NoSuchFrame, NoSuchHistoryEntry}
use Rattle.bidi_params.specs.declared.error_code.ErrorCode.TheVariants.{NoSuchUserContext, UnknownError, UnsupportedOperation}
use Rattle.bidi_handles.specs.declared.id.IdKind.TheVariants.{Realm}
use Rattle.bidi_handles.specs.Ids.{id_of}
use Rattle.bidi_contexts.specs.Urls.{parsed}
use Rattle.bidi_scripts.specs.declared.log_entry.Level.{Level}
use Rattle.bidi_contexts.specs.Acts.{Act, Made, Framed, Removed, Moved, Logged, Tabled, Ran, Disowned, UserMade, UserRemoved, Looked, To}
use Rattle.bidi_contexts.specs.Acts.{Again, Across, Ending, Returned, Threw, ScriptEffect, EndsIn, GivesBack}
use Rattle.bidi_contexts.specs.Limits.{most_contexts, lowest_level, most_users, most_handles, most_rows}
use Rattle.bidi_contexts.specs.Contexts.{parent_of, level_of, window_of, contexts, context_of, tops}
use Rattle.bidi_contexts.specs.Users.{others, user_named}
use Rattle.bidi_contexts.specs.Places.{entries_of, place_across}
use Rattle.bidi_contexts.specs.Realms.{realm_of, realms, value_of, handles_of, held_value, row_of, tabled_texts}
use Rattle.bidi_handles.specs.Params.{text_at, tree_if_at, number_if_at}
use Rattle.bidi_contexts.specs.Actions.{CreateType, Tab, OwnWindow, Target, ContextTarget, RealmTarget, Action}
use Rattle.bidi_contexts.specs.Actions.{Activate, Close, Create, GetTree, Navigate, Reload, TraverseHistory, Evaluate}
use Rattle.bidi_contexts.specs.Actions.{CallFunction, Disown, GetRealms, CreateUserContext, GetUserContexts, RemoveUserContext}
use Rattle.bidi_contexts.specs.Actions.{Frame, Unframe, Log, TableRow}
use Rattle.bidi_handles.specs.Checks.{◌>>=◌, need, found}
use Rattle.bidi_handles.specs.Values.{argument, arguments, takes_handle, has_handle}
use Rattle.bidi_handles.specs.Maps.{◌being◌and◌, mapped, word}
use Rattle.bidi_shape.specs.Limits.{most_levels}

-- ---- contexts

-- The live context of an id; without one, the code is `no such frame`.
abbrev pub context_named : List Act → List ℕ → Result ℕ ErrorCode
context_named past id = found (context_of past id) NoSuchFrame

-- The live top-level context of an id; a child of another is refused with `invalid argument`.
abbrev pub top_named : List Act → List ℕ → Result ℕ ErrorCode
top_named past id = do
  c ← context_named past id
  top ← need (is_none (parent_of past c)) InvalidArgument
  Ok c

-- The live top-level context of an id that may be absent.
abbrev pub top_if_named : List Act → Option (List ℕ) → Result (Option ℕ) ErrorCode
top_if_named past None = Ok None
top_if_named past (Some id) = do
  c ← top_named past id
  Ok (Some c)

-- The window of the first context in the list, if there is one.
abbrev pub oldest_window : List Act → List ℕ → Option ℕ
oldest_window past [] = None
oldest_window past (c ∷ cs) = Some (window_of past c)

-- The window that a new context joins, if any: a tab joins that of its reference, or else that of the oldest top-level context.
abbrev pub window_for : List Act → CreateType → Option ℕ → Option ℕ
window_for past OwnWindow reference = None
window_for past Tab (Some c) = Some (window_of past c)
window_for past Tab None = oldest_window past (tops past)

-- The live user context of an id; without one, the code is `no such user context`.
abbrev pub user_checked : List Act → List ℕ → Result ℕ ErrorCode
user_checked past id = found (user_named past id) NoSuchUserContext

-- Fewer than 1,024 contexts are live.
abbrev pub has_room : List Act → Bool
has_room past = nat_lt (length (contexts past)) most_contexts

-- A create checks the reference context, then the user context, then that there is room for one more context.
abbrev pub create_outcome : List Act → CreateType → Option (List ℕ) → Option (List ℕ) → Result Act ErrorCode
create_outcome past type reference user = do
  c ← top_if_named past reference
  u ← user_checked past (unwrap_or user (codes "default"))
  room ← need (has_room past) UnknownError
  Ok (Made (window_for past type c) u)

-- A close removes a top-level context.
abbrev pub close_outcome : List Act → List ℕ → Result Act ErrorCode
close_outcome past id = do
  c ← top_named past id
  Ok (Removed c)

-- An action that only looks: it changes nothing if its check passes.
abbrev pub looked : {A : Type 0} → Result A ErrorCode → Result Act ErrorCode
looked (Ok x) = Ok Looked
looked (Err code) = Err code

-- An action that looks at the context of an id, or at all contexts if no id is given.
abbrev pub looked_at : List Act → Option (List ℕ) → Result Act ErrorCode
looked_at past None = Ok Looked
looked_at past (Some id) = looked (context_named past id)

-- A frame checks its parent, its URL, that there is room for one more context, and that its parent is above level 16.
abbrev pub frame_outcome : List Act → List ℕ → List ℕ → Result Act ErrorCode
frame_outcome past id address = do
  c ← context_named past id
  url ← found (parsed address) InvalidArgument
  room ← need (has_room past) UnknownError
  high ← need (nat_lt (level_of past c) lowest_level) UnknownError
  Ok (Framed c url)

-- An unframe removes a child; a top-level context is refused with `invalid argument`.
abbrev pub unframe_outcome : List Act → List ℕ → Result Act ErrorCode
unframe_outcome past id = do
  c ← context_named past id
  child ← need (is_some (parent_of past c)) InvalidArgument
  Ok (Removed c)

-- ---- user contexts

-- A user context is created if fewer than 64 are live beside `default`.
abbrev pub create_user_outcome : List Act → Result Act ErrorCode
create_user_outcome past = do
  room ← need (nat_lt (length (others past)) most_users) UnknownError
  Ok UserMade

-- A live user context is removed; `default` is refused with `invalid argument`.
abbrev pub remove_user_outcome : List Act → List ℕ → Result Act ErrorCode
remove_user_outcome past id = do
  other ← need (not (bytes_eq id (codes "default"))) InvalidArgument
  u ← user_checked past id
  Ok (UserRemoved u)

-- ---- navigation

-- A navigation to a URL checks the context, then the URL.
abbrev pub navigate_outcome : List Act → List ℕ → List ℕ → Result Act ErrorCode
navigate_outcome past id address = do
  c ← context_named past id
  url ← found (parsed address) InvalidArgument
  Ok (Moved c (To url))

-- A reload checks the context.
abbrev pub reload_outcome : List Act → List ℕ → Result Act ErrorCode
reload_outcome past id = do
  c ← context_named past id
  Ok (Moved c Again)

-- A traversal checks that the context is a top-level one, then that an entry lies at the place.
abbrev pub traverse_outcome : List Act → List ℕ → ℤ → Result Act ErrorCode
traverse_outcome past id delta = do
  c ← top_named past id
  place ← found (place_across (entries_of past c) delta) NoSuchHistoryEntry
  Ok (Moved c (Across place))

-- ---- scripts

-- The live realm of a target; a sandbox is refused with `unsupported operation`.
abbrev pub realm_targeted : List Act → Target → Result ℕ ErrorCode
realm_targeted past (ContextTarget id sandbox) = do
  c ← context_named past id
  no_sandbox ← need (bytes_eq sandbox []) UnsupportedOperation
  Ok (realm_of past c)
realm_targeted past (RealmTarget id) = found (find (λ r. bytes_eq id (id_of Realm r)) (realms past)) NoSuchFrame

-- A script ended: its value gets a handle if one is asked for and the value can have one, and a realm has at most 1,000.
abbrev pub ending_outcome : List Act → ℕ → Bool → Ending → Result Act ErrorCode
ending_outcome past r owned ending =
    let held = owned && takes_handle (value_of ending) in do
      room ← need (not held || nat_lt (length (handles_of past r)) most_handles) UnknownError
      Ok (Ran r ending held)

-- The value undefined, `{"type":"undefined"}`.
abbrev pub undefined : Node
undefined = mapped ("type" being word "undefined" and no_members)

-- How a script with a row ends: as the row says, or by returning the argument that it names, or undefined without that argument.
abbrev pub ending_of : ScriptEffect → List Node → Ending
ending_of (EndsIn ending) values = ending
ending_of (GivesBack n) values = Returned (unwrap_or (slice_get values n) undefined)

-- An evaluation checks the target, then that the expression has a row, then that the realm has room for a handle.
abbrev pub evaluate_outcome : List Act → List ℕ → Target → Bool → Result Act ErrorCode
evaluate_outcome past expression target owned = do
  r ← realm_targeted past target
  row ← found (row_of past expression) UnsupportedOperation
  ending_outcome past r owned (ending_of row [])

-- The value of `this`, if it is given.
abbrev pub this_resolved : List Act → ℕ → Option Node → Result (Option Node) ErrorCode
this_resolved past r None = Ok None
this_resolved past r (Some value) = do
  v ← argument (held_value past r) value
  Ok (Some v)

-- A call checks the target, then each argument, then `this`, then that the function's text has a row, then that the realm has room for a handle.
abbrev pub call_outcome : List Act → List ℕ → Target → List Node → Option Node → Bool → Result Act ErrorCode
call_outcome past declaration target values this owned = do
  r ← realm_targeted past target
  resolved ← arguments (held_value past r) values
  self ← this_resolved past r this
  row ← found (row_of past declaration) UnsupportedOperation
  ending_outcome past r owned (ending_of row resolved)

-- A disown checks the target.
abbrev pub disown_outcome : List Act → List (List ℕ) → Target → Result Act ErrorCode
disown_outcome past ids target = do
  r ← realm_targeted past target
  Ok (Disowned r ids)

-- ---- the log and the table

-- A log entry checks the context.
abbrev pub log_outcome : List Act → List ℕ → Level → List ℕ → Result Act ErrorCode
log_outcome past id level line = do
  c ← context_named past id
  Ok (Logged c level line)

-- What a row of the table says by its members; a tree that fits the rule TableRow has exactly one of the three.
abbrev pub row_said : Option Node → Option Node → Option ℕ → ScriptEffect
row_said (Some value) thrown argument = EndsIn (Returned value)
row_said None (Some value) argument = EndsIn (Threw value)
row_said None None argument = GivesBack (unwrap_or argument 0)

-- What the row says that a tree gives.
abbrev pub row_in : Node → ScriptEffect
row_in t = row_said (tree_if_at "returns" t) (tree_if_at "throws" t) (number_if_at "argument" t)

-- A value may be in the table: it has no handle and no internal id, and at most 60 levels, or 59 if it is thrown.
abbrev pub may_end_in : Ending → Bool
may_end_in (Returned value) = not (has_handle value) && nat_le (levels value) most_levels
may_end_in (Threw value) = not (has_handle value) && nat_lt (levels value) most_levels

-- A row may be in the table: it returns an argument, or a value that may be in the table.
abbrev pub may_say : ScriptEffect → Bool
may_say (EndsIn ending) = may_end_in ending
may_say (GivesBack n) = true

-- The row of a text can be set: the text has a row already, or fewer than 1,024 texts have one.
abbrev pub takes_row : List Act → List ℕ → Bool
takes_row past script = is_some (row_of past script) || nat_lt (length (tabled_texts past)) most_rows

-- A row checks its value, then that there is room for it.
abbrev pub row_checked : List Act → Node → Result (Unit {0}) ErrorCode
row_checked past t = do
  fit ← need (may_say (row_in t)) InvalidArgument
  need (takes_row past (text_at "text" t)) UnknownError

-- A row of the table is set if the tree is one and its checks pass.
abbrev pub row_outcome : List Act → Option Node → Result Act ErrorCode
row_outcome past row = do
  t ← found row InvalidArgument
  checked ← row_checked past t
  Ok (Tabled (text_at "text" t) (row_in t))

-- ---- every action

-- The act of an action, or the code of the first check that fails; a step of a page with a code has no effect.
abbrev pub outcome : List Act → Action → Result Act ErrorCode
outcome past (Activate id) = looked (top_named past id)
outcome past (Close id) = close_outcome past id
outcome past (Create type reference user) = create_outcome past type reference user
outcome past (GetTree depth root) = looked_at past root
outcome past (Navigate id address wait) = navigate_outcome past id address
outcome past (Reload id wait) = reload_outcome past id
outcome past (TraverseHistory id delta) = traverse_outcome past id delta
outcome past (Evaluate expression target owned depth) = evaluate_outcome past expression target owned
outcome past (CallFunction declaration target values this owned depth) = call_outcome past declaration target values this owned
outcome past (Disown ids target) = disown_outcome past ids target
outcome past (GetRealms context type) = looked_at past context
outcome past CreateUserContext = create_user_outcome past
outcome past GetUserContexts = Ok Looked
outcome past (RemoveUserContext id) = remove_user_outcome past id
outcome past (Frame id address) = frame_outcome past id address
outcome past (Unframe id) = unframe_outcome past id
outcome past (Log id level line) = log_outcome past id level line
outcome past (TableRow row) = row_outcome past row
