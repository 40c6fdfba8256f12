-- The relation of the code's results to the definitions, for resolving, measuring and checking local values. Defined by this project.
use Rattle.std.specs.Prelude.{◌≡◌, Option, Some, None, Result, Ok, Err, ⊤}
use Rattle.std.specs.Result.{result_unwrap_or}
use Rattle.bidi_tree.specs.Node.{Node, null}
use Rattle.bidi_params.specs.declared.error_code.ErrorCode.{ErrorCode}
use Rattle.bidi_handles.specs.declared.argument.Argument.{Argument}
use Rattle.bidi_handles.specs.declared.refusal.Refusal.{Refusal}
use Rattle.bidi_handles.specs.declared.refusal.Refusal.TheVariants.{Code, NoMemory}
use Rattle.bidi_handles.specs.declared.size.Size.{Size}
use Rattle.bidi_handles.specs.Checks.{◌>>=◌}
use Rattle.bidi_handles.specs.Handles.{values_in}
use Rattle.bidi_handles.specs.Sizes.{size_of}
use Rattle.bidi_handles.specs.Values.{Held, argument}
use Rattle.bidi_handles.specs.ValuesInHand.{local_tree}

-- the result is the value or the error code that the definition gives, unless an allocation failed
abbrev pub Gives : {A B : Type 0} → (A → B) → Result A Refusal → Result B ErrorCode → Type 0
Gives view (Ok x) answer = answer ≡ Ok (view x)
Gives view (Err (Code code)) answer = answer ≡ Err code
Gives view (Err NoMemory) answer = ⊤

-- the result is the size of the tree that the definition gives, or its error code, unless an allocation failed
abbrev pub IsSized : Result Size Refusal → Result Node ErrorCode → Type 0
IsSized (Ok size) answer = (t : Node) × (answer ≡ Ok t) × (size ≡ size_of t)
IsSized (Err (Code code)) answer = answer ≡ Err code
IsSized (Err NoMemory) answer = ⊤

-- the value that a checked argument resolves to
abbrev pub stands_for : Argument → Node
stands_for a = result_unwrap_or (argument (values_in a.handles.now) (local_tree a.value.now)) null

-- the check succeeds exactly if the definition gives a value, and otherwise has its error code, unless an allocation failed
abbrev pub Passes : {B : Type 0} → Result (Unit {0}) Refusal → Result B ErrorCode → Type 0
Passes {B} (Ok u) answer = (x : B) × (answer ≡ Ok x)
Passes (Err (Code code)) answer = answer ≡ Err code
Passes (Err NoMemory) answer = ⊤

-- `this` of a call, resolved as an argument, if it is given
abbrev pub this_argument : Held → Option Node → Result (Option Node) ErrorCode
this_argument held None = Ok None
this_argument held (Some value) = do
  v ← argument held value
  Ok (Some v)
