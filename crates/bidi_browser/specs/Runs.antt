-- What it means that a script ends in the code as in the definitions, with the same result and the same change.
use Rattle.std.specs.Prelude.{◌≡◌, ℕ, Bool, true, false, ◌&&◌, nat_lt, List, length, Option, Some, None, Result, Ok, Err, ⊤}
use Rattle.bidi_tree.specs.Node.{Node, no_members}
use Rattle.bidi_params.specs.declared.error_code.ErrorCode.{ErrorCode}
use Rattle.bidi_params.specs.declared.error_code.ErrorCode.TheVariants.{UnsupportedOperation, UnknownError}
use Rattle.bidi_handles.specs.declared.handle.Ending as declared_ending
use Rattle.bidi_handles.specs.declared.id.IdKind.TheVariants.{Handle, Realm}
use Rattle.bidi_handles.specs.declared.refusal.Refusal.{Refusal}
use Rattle.bidi_handles.specs.declared.refusal.Refusal.TheVariants.{Code, NoMemory}
use Rattle.bidi_browser.specs.declared.scripts.Ran.{Ran as RanInHand}
use Rattle.bidi_contexts.specs.Acts.{Act, Ran, Ending, Returned, Threw, ScriptEffect, next_number}
use Rattle.bidi_handles.specs.Checks.{◌>>=◌, found}
use Rattle.bidi_handles.specs.Maps.{◌being◌and◌, mapped, word, id_tree}
use Rattle.bidi_browser.specs.Occurs.{exception_details, script_result}
use Rattle.bidi_contexts.specs.Outcome.{ending_of, ending_outcome, this_resolved}
use Rattle.bidi_browser.specs.Plans.{EditMakes}
use Rattle.bidi_contexts.specs.Limits.{most_handles}
use Rattle.bidi_contexts.specs.Realms.{realm_of, row_of, value_of, handles_of, held_value}
use Rattle.bidi_browser.specs.TableInHand.{ending_seen}
use Rattle.bidi_browser.specs.View.{text_tree}
use Rattle.bidi_handles.specs.Values.{arguments, takes_handle}

-- A script of the text ends so with these arguments; or the table has no row for it; or an allocation failed.
abbrev pub IsEnding : Result declared_ending.Ending Refusal → List Act → List ℕ → List Node → Type 0
IsEnding (Ok ending) past script values = (row : ScriptEffect) × (row_of past script ≡ Some row) × (ending_seen ending ≡ ending_of row values)
IsEnding (Err (Code code)) past script values = (row_of past script ≡ None) × (code ≡ UnsupportedOperation)
IsEnding (Err NoMemory) past script values = ⊤

-- How a function that is called in a realm ends: each argument is checked, then `this`, then its row is looked up.
abbrev pub call_ending : List Act → ℕ → List ℕ → List Node → Option Node → Result Ending ErrorCode
call_ending past r declaration values this = do
  resolved ← arguments (held_value past r) values
  self ← this_resolved past r this
  row ← found (row_of past declaration) UnsupportedOperation
  Ok (ending_of row resolved)

-- A script returned the value, or an allocation failed.
abbrev pub HasReturned : Result declared_ending.Ending Refusal → Node → Type 0
HasReturned (Ok ending) value = ending_seen ending ≡ Returned value
HasReturned (Err (Code code)) value = ⊥
HasReturned (Err NoMemory) value = ⊤

-- It is the number that the next handle in the realm gets, or the code says that the realm has no room for one.
abbrev pub IsNextHandle : Result ℕ ErrorCode → List Act → ℕ → Type 0
IsNextHandle (Ok n) past r = (nat_lt (length (handles_of past r)) most_handles ≡ true) × (n ≡ next_number past Handle)
IsNextHandle (Err code) past r = (nat_lt (length (handles_of past r)) most_handles ≡ false) × (code ≡ UnknownError)

-- The result of a script that returned a value in a realm, as the value is shown.
abbrev pub success_tree : Node → Node → Node
success_tree realm shown = mapped (
    "type" being word "success" and
    "result" being shown and
    "realm" being realm and no_members)

-- The result of a script that threw a value in a realm, as the value is shown.
abbrev pub exception_tree : Node → Node → Node
exception_tree realm shown = mapped (
    "type" being word "exception" and
    "exceptionDetails" being exception_details shown and
    "realm" being realm and no_members)

-- The result of a script that ended in a realm, with its value as it is shown.
abbrev pub result_told : ℕ → Ending → Node → Node
result_told r (Returned value) shown = success_tree (id_tree Realm r) shown
result_told r (Threw value) shown = exception_tree (id_tree Realm r) shown

-- The script's act, its result and the change that it makes; or the code of its check; or an allocation failed.
abbrev pub HasRun : Result RanInHand Refusal → List Act → ℕ → Bool → Option ℕ → Ending → Type 0
HasRun (Ok ran) past c owned depth ending =
    let r = realm_of past c in
    let held = owned && takes_handle (value_of ending) in
    (ending_outcome past r owned ending ≡ Ok (Ran r ending held))
    × (text_tree ran.result ≡ script_result past r depth ending held) × EditMakes ran.edit past (Ran r ending held)
HasRun (Err (Code code)) past c owned depth ending = ending_outcome past (realm_of past c) owned ending ≡ Err code
HasRun (Err NoMemory) past c owned depth ending = ⊤
