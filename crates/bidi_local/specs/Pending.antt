-- The pending commands of a local end, and the effect of each call on them. The limits are this project's own.
use Rattle.std.specs.Prelude.{◌≡◌, ℕ, suc, pos, ◌-◌, ◌^◌, ◌==◌, nat_le, nat_lt, not, if◌then◌else◌, List, map}
use Rattle.std.specs.Prelude.{filter, find, length, codes, Option, Some, None, option_map, is_some, Result, Ok, Err}
use Rattle.std.specs.Prelude.{◌⊎◌}
use Rattle.bidi_tree.specs.Node.{Node, whole, text, map as map_of, no_members, member}
use Rattle.bidi_tree.specs.Text.{compact_text}
use Rattle.bidi_methods.specs.declared.method.Method.{Method}
use Rattle.bidi_methods.specs.Method.{method_text}
use Rattle.bidi_messages.specs.Limits.{most_pending}
use Rattle.bidi_local.specs.declared.local_end.LocalFault.{LocalFault}
use Rattle.bidi_local.specs.declared.local_end.LocalFault.TheVariants.{NoMemory, IdsUsedUp, TooManyPending, TooLong}
use Rattle.bidi_local.specs.declared.local_end.NoteFault.{NoteFault}
use Rattle.bidi_local.specs.declared.local_end.NoteFault.TheVariants as unnoted
use Rattle.bidi_shape.specs.Limits.{most_bytes}
use Rattle.bidi_tree.specs.Number.{greatest_js_uint}

-- the pending commands: the id and the method of each, in the order in which they were sent
abbrev pub Pending : Type 0
Pending = List (ℕ × Method)

-- the ids of the pending commands
abbrev pub ids : Pending → List ℕ
ids waiting = map (λ w. w.0) waiting

-- the method of the pending command with that id, or None
abbrev pub method_of : Pending → ℕ → Option Method
method_of waiting id = option_map (λ w. w.1) (find (λ w. id == w.0) waiting)

-- the pending commands without the one with that id
abbrev pub without : Pending → ℕ → Pending
without waiting id = filter (λ w. not (id == w.0)) waiting

-- ---- sending

-- the tree of a command: `{ id: js-uint, method: "M", params: P }`
abbrev pub command_tree : ℕ → Method → Node → Node
command_tree id method params = map_of (
    member (codes "id") (whole (pos id)) (
    member (codes "method") (text (method_text method)) (
    member (codes "params") params no_members)))

-- the text of the next command, if `sent` is the last id
abbrev pub command_text : ℕ → Method → Node → List ℕ
command_text sent method params = compact_text (command_tree (suc sent) method params)

-- the fault of sending a command, given the last id, the pending commands and the command's text: the first that applies, or None
-- example: the 1,025th command that waits
abbrev pub refusal_of : ℕ → Pending → List ℕ → Option LocalFault
refusal_of sent waiting written =
    if nat_le greatest_js_uint sent then Some IdsUsedUp
    else if nat_le most_pending (length waiting) then Some TooManyPending
    else if nat_lt most_bytes (length written) then Some TooLong
    else None

-- the result agrees with this fault; `NoMemory` may come instead of `TooLong` or of success, but not of other faults
abbrev pub IsAnswered : {A : Type 0} → Result A LocalFault → Option LocalFault → Type 0
IsAnswered (Ok sent) refusal = refusal ≡ None
IsAnswered (Err NoMemory) refusal = (refusal ≡ Some TooLong) ⊎ (refusal ≡ None)
IsAnswered (Err fault) refusal = refusal ≡ Some fault

-- ---- noting what others sent

-- the fault of noting a command with this id, given the pending commands: the first that applies, or None
abbrev pub note_refusal : Pending → ℕ → Option NoteFault
note_refusal waiting id =
    if is_some (method_of waiting id) then Some unnoted.IdWaits
    else if nat_le most_pending (length waiting) then Some unnoted.TooManyPending
    else None

-- the result agrees with this fault; `NoMemory` may come only instead of success
abbrev pub IsNoted : {A : Type 0} → Result A NoteFault → Option NoteFault → Type 0
IsNoted (Ok noted) refusal = refusal ≡ None
IsNoted (Err unnoted.NoMemory) refusal = refusal ≡ None
IsNoted (Err fault) refusal = refusal ≡ Some fault
