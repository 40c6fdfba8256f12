-- What a plan that the code has reports, and how its change of the tables corresponds to an act.
use Rattle.std.specs.Prelude.{suc, ◌≡◌, ◌≤◌, ℕ, Bool, true, false, not, List, [], ◌∷◌, ◌++◌, map, filter}
use Rattle.std.specs.Prelude.{Option, Some, None, Result, Ok, Err, is_some, IfSome, ⊤, string_bytes}
use Rattle.bidi_tree.specs.Node.{levels}
use Rattle.bidi_methods.specs.declared.method.Method.{Method}
use Rattle.bidi_browser.specs.declared.command_result.CommandResult.{CommandResult}
use Rattle.bidi_browser.specs.declared.command_result.CommandResult.TheVariants.{Data, Text}
use Rattle.bidi_methods.specs.contracts.event_data.EventDataPayloadEventName.TheImpl as events
use Rattle.bidi_methods.specs.contracts.result_data.ResultDataPayloadMethod.TheImpl as results
use Rattle.bidi_handles.specs.declared.id.IdKind.TheVariants.{Context, Handle, Window}
use Rattle.bidi_browser.specs.declared.browser.Browser.{Browser}
use Rattle.bidi_browser.specs.declared.plan.Plan.{Plan}
use Rattle.bidi_browser.specs.declared.plan.Change.{Change}
use Rattle.bidi_browser.specs.declared.plan.Edit.{Edit}
use Rattle.bidi_browser.specs.declared.plan.Edit.TheVariants.{Keep, Add, Remove, Navigate, SetRow, Hold, Disown, AddUser, RemoveUser}
use Rattle.bidi_handles.specs.declared.refusal.Refusal.{Refusal}
use Rattle.bidi_handles.specs.declared.refusal.Refusal.TheVariants.{Code, NoMemory}
use Rattle.bidi_contexts.specs.Acts.{Act, Removed, Moved, Tabled, Ran, Disowned, UserMade, UserRemoved, Logged, Looked, Ending, gives, next_number}
use Rattle.bidi_handles.specs.Ids.{has_id}
use Rattle.bidi_contexts.specs.Realms.{realm_of, value_of, handles_of}
use Rattle.bidi_handles.specs.ValuesInHand.{handle_seen}
use Rattle.bidi_contexts.specs.Contexts.{is_alive}
use Rattle.bidi_contexts.specs.Actions.{Action, is_asked}
use Rattle.bidi_contexts.specs.Outcome.{outcome}
use Rattle.bidi_browser.specs.Occurs.{Item, Happens, Replies, occurs}
use Rattle.bidi_contexts.specs.ContextRows.{row_of, row_at}
use Rattle.bidi_contexts.specs.HistoryInHand.{move_of}
use Rattle.bidi_browser.specs.TableInHand.{row_seen, HasRoomForRow}
use Rattle.bidi_contexts.specs.Tables.{HasRoomForOne, HasRoomIn, HasRoomForHandle, HasRoomForUser, IsNavigation}
use Rattle.bidi_contexts.specs.View.{AreWell, seen}
use Rattle.bidi_browser.specs.View.{result_tree, result_method, text_tree}
use Rattle.bidi_browser.specs.Results.{most_result_levels, IsResultText}

-- ---- room

-- The tables have room for what the edit adds.
abbrev pub EditHasRoom : Browser → Edit → Type 0
EditHasRoom browser (Add context opens_window) = HasRoomForOne browser.contexts
EditHasRoom browser (Navigate n) = HasRoomIn browser.contexts n.context n.to
EditHasRoom browser (SetRow script row) = HasRoomForRow browser.table
EditHasRoom browser (Hold number handle) = HasRoomForHandle browser.contexts number
EditHasRoom browser AddUser = HasRoomForUser browser.users
EditHasRoom browser edit = ⊤

-- The tables have room for what the change adds.
abbrev pub HasRoom : Browser → Change → Type 0
HasRoom browser change = EditHasRoom browser change.edit

-- ---- what a plan tells

-- The reply, if a client asked for one.
abbrev pub reply_in : Option CommandResult → List Item
reply_in None = []
reply_in (Some r) = Replies (result_tree r) ∷ []

-- The events of a plan, with the reply in its place.
abbrev pub items_in : Plan → List Item
items_in p = map Happens (seen p.before.items) ++ (reply_in p.result ++ map Happens (seen p.after.items))

-- A response can be made of the result: its data are well formed and have few levels, or its text is that of such a result.
abbrev pub IsWellResult : CommandResult → Type 0
IsWellResult (Data r) = results.ghosts.payload.well r × (levels (result_tree (Data r)) ≤ most_result_levels)
IsWellResult (Text r) = IsResultText r.method (string_bytes r.text) (text_tree r)

-- A message can be made of each event and of the result.
pub record IsWellTold (p : Plan) : Type 0 where
  pub before : AreWell p.before.items
  pub result : IfSome p.result IsWellResult
  pub after : AreWell p.after.items

-- ---- what a plan changes

-- The act leaves the tables as they are.
abbrev pub leaves_tables : Act → Bool
leaves_tables Looked = true
leaves_tables (Logged c level text) = true
leaves_tables (Ran r ending held) = not held
leaves_tables act = false

-- Applying the edit to the tables corresponds to adding the act to the past.
abbrev pub EditMakes : Edit → List Act → Act → Type 0
EditMakes Keep past act = leaves_tables act ≡ true
EditMakes (Add context opens_window) past act =
    (gives Context act ≡ true) × (row_of context ≡ row_at (act ∷ past) (next_number past Context)) × (opens_window ≡ gives Window act)
EditMakes (Remove number) past act = act ≡ Removed number
EditMakes (Navigate n) past act = (act ≡ Moved n.context (move_of n.to)) × IsNavigation n past
EditMakes (Hold number handle) past act =
    (ending : Ending) × (is_alive past number ≡ true)
    × (act ≡ Ran (realm_of past number) ending true) × (handle_seen handle ≡ (next_number past Handle, value_of ending))
EditMakes (Disown number numbers) past act =
    (ids : List (List ℕ)) × (is_alive past number ≡ true) × (act ≡ Disowned (realm_of past number) ids)
    × (numbers.items ≡ map (λ held. held.0) (filter (λ held. has_id ids held.0) (handles_of past (realm_of past number))))
EditMakes AddUser past act = act ≡ UserMade
EditMakes (RemoveUser number) past act = act ≡ UserRemoved number
EditMakes (SetRow script row) past act = act ≡ Tabled (string_bytes script) (row_seen row)

-- Applying the change to the tables corresponds to adding the act to the past.
abbrev pub Makes : Change → List Act → Act → Type 0
Makes change past act = EditMakes change.edit past act

-- ---- what a plan is

-- The plan has what the act of the action causes, a reply if a client asked for one, and the change that the act makes; or the code is that of
-- the check that fails. Without a reply no event comes after it.
abbrev pub Plans : Result Plan Refusal → List Act → ℕ → Action → Type 0
Plans (Ok plan) past moment action =
    (act : Act) × (outcome past action ≡ Ok act)
    × (items_in plan ≡ occurs past moment action act) × (is_some plan.result ≡ is_asked action) × Makes plan.change past act
    × (is_asked action ≡ false → plan.after.items ≡ [])
Plans (Err (Code code)) past moment action = outcome past action ≡ Err code
Plans (Err NoMemory) past moment action = ⊤

-- If there is a plan, a message can be made of each of its events and of its result.
abbrev pub IsWellPlanned : Result Plan Refusal → Type 0
IsWellPlanned (Ok plan) = IsWellTold plan
IsWellPlanned (Err refusal) = ⊤

-- If the plan has a result, it is of the method.
abbrev pub HasResultOf : Method → Result Plan Refusal → Type 0
HasResultOf method (Ok plan) = IfSome plan.result (λ r. result_method r ≡ method)
HasResultOf method (Err refusal) = ⊤
