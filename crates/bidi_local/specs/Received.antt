-- The meaning of a text from the remote end, given the pending commands. After WebDriver BiDi, "Transport".
use Rattle.std.specs.Prelude.{◌≡◌, ℕ, List, [], codes, Option, Some, None, option_and_then, unwrap_or}
use Rattle.bidi_tree.specs.Node.{Node, null, get_of}
use Rattle.bidi_tree.specs.Kind.{text_in}
use Rattle.bidi_tree.specs.Text.{tree_of}
use Rattle.bidi_shape.specs.Name.{message, command_response, error_response, event}
use Rattle.bidi_shape.specs.Term.{rule}
use Rattle.bidi_shape.specs.Fits.{Fits}
use Rattle.bidi_methods.specs.declared.method.Method.{Method}
use Rattle.bidi_params.specs.declared.error_code.ErrorCode.{ErrorCode}
use Rattle.bidi_methods.specs.declared.event_data.EventName.{EventName}
use Rattle.bidi_methods.specs.Method.{result_of}
use Rattle.bidi_params.specs.ErrorCode.{error_code_text}
use Rattle.bidi_methods.specs.EventName.{event_name_text}
use Rattle.bidi_messages.specs.Verdict.{echoed_id}
use Rattle.bidi_messages.specs.Command.{id_in, method_in, params_in}
use Rattle.bidi_local.specs.Pending.{Pending, method_of, without}

-- the meaning of a text to a local end
pub data Meaning : Type 0 where
  -- a command succeeded, with this result
  Answer : (id : ℕ) (method : Method) (result : Node) → Meaning
  -- a command succeeded, but its result does not fit the rule of its method
  BadResult : (id : ℕ) → Meaning
  -- a command failed
  Refusal : (id : ℕ) (code : ErrorCode) → Meaning
  Event : (event : EventName) (params : Node) → Meaning
  -- a response or an error that answers no pending command
  Stray : Meaning
  NotInProfile : Meaning
  NotJson : Meaning

-- the member `result` of a response
abbrev pub result_in : Node → Node
result_in t = unwrap_or (get_of (codes "result") t) null

-- the member `error` of an error
abbrev pub error_in : Node → List ℕ
error_in t = unwrap_or (option_and_then text_in (get_of (codes "error") t)) []

-- the method of the pending command that a response or an error answers, or None if it answers none
abbrev pub asked_by : Pending → Node → Option Method
asked_by waiting t = option_and_then (method_of waiting) (echoed_id t)

-- the meaning of a text: it is not JSON, no message, an event, a stray reply, or the reply to a pending command
-- example: `{"type":"success","id":1,"result":{}}`, while a status waits as 1, is a bad result
pub data Means (waiting : Pending) (s : List ℕ) : Meaning → Type 0 where
  is_not_json : tree_of s ≡ None → Means waiting s NotJson
  is_no_message : (t : Node) → tree_of s ≡ Some t → (Fits t (rule message) → ⊥) → Means waiting s NotInProfile
  is_event : (t : Node) (e : EventName) → tree_of s ≡ Some t → Fits t (rule event) → method_in t ≡ event_name_text e → Means waiting s (Event e (params_in t))
  is_stray_response : (t : Node) → tree_of s ≡ Some t → Fits t (rule command_response) → asked_by waiting t ≡ None → Means waiting s Stray
  is_stray_error : (t : Node) → tree_of s ≡ Some t → Fits t (rule error_response) → asked_by waiting t ≡ None → Means waiting s Stray
  is_refusal : (t : Node) (method : Method) (code : ErrorCode) → tree_of s ≡ Some t → Fits t (rule error_response) → asked_by waiting t ≡ Some method
      → error_in t ≡ error_code_text code → Means waiting s (Refusal (id_in t) code)
  is_answer : (t : Node) (method : Method) → tree_of s ≡ Some t → Fits t (rule command_response) → asked_by waiting t ≡ Some method
      → Fits (result_in t) (rule (result_of method)) → Means waiting s (Answer (id_in t) method (result_in t))
  is_bad_result : (t : Node) (method : Method) → tree_of s ≡ Some t → Fits t (rule command_response) → asked_by waiting t ≡ Some method
      → (Fits (result_in t) (rule (result_of method)) → ⊥) → Means waiting s (BadResult (id_in t))

-- the pending commands after a text of this meaning: a reply settles its command, and other texts leave them unchanged
abbrev pub settled : Pending → Meaning → Pending
settled waiting (Answer id method result) = without waiting id
settled waiting (BadResult id) = without waiting id
settled waiting (Refusal id code) = without waiting id
settled waiting meaning = waiting

-- the method is that of the command that is settled, or None if no command is
abbrev pub IsSettledBy : Pending → Meaning → Option Method → Type 0
IsSettledBy waiting (Answer id method result) told = (told ≡ Some method) × (method_of waiting id ≡ Some method)
IsSettledBy waiting (BadResult id) told = (method : Method) × (told ≡ Some method) × (method_of waiting id ≡ Some method)
IsSettledBy waiting (Refusal id code) told = (method : Method) × (told ≡ Some method) × (method_of waiting id ≡ Some method)
IsSettledBy waiting meaning told = told ≡ None
