-- The meaning of a tree, of a result and of an error, given the pending commands. After WebDriver BiDi, "Transport".
use Rattle.std.specs.Prelude.{◌≡◌, ℕ, List, Some, None}
use Rattle.bidi_tree.specs.Node.{Node}
use Rattle.bidi_tree.specs.Text.{tree_of}
use Rattle.bidi_shape.specs.Term.{rule}
use Rattle.bidi_shape.specs.Fits.{Fits}
use Rattle.bidi_methods.specs.declared.method.Method.{Method}
use Rattle.bidi_params.specs.declared.error_code.ErrorCode.{ErrorCode}
use Rattle.bidi_methods.specs.Method.{result_of}
use Rattle.bidi_local.specs.Pending.{Pending, method_of}
use Rattle.bidi_local.specs.Received.{Meaning, Answer, BadResult, Refusal, Stray, Means}

-- each text with this tree has this meaning
abbrev pub IsMeaningOf : Pending → Node → Meaning → Type 0
IsMeaningOf waiting t meaning = (s : List ℕ) → tree_of s ≡ Some t → Means waiting s meaning

-- the result of a pending command is an answer if it fits the rule of the command's method, and a bad result otherwise
pub data IsOutcome (id : ℕ) (method : Method) (outcome : Node) : Meaning → Type 0 where
  is_good : Fits outcome (rule (result_of method)) → IsOutcome id method outcome (Answer id method outcome)
  is_bad : (Fits outcome (rule (result_of method)) → ⊥) → IsOutcome id method outcome (BadResult id)

-- an error refuses the pending command with its id, and is stray if there is none
pub data IsRefusal (waiting : Pending) (id : ℕ) (code : ErrorCode) : Meaning → Type 0 where
  refuses : (method : Method) → method_of waiting id ≡ Some method → IsRefusal waiting id code (Refusal id code)
  is_stray : method_of waiting id ≡ None → IsRefusal waiting id code Stray
