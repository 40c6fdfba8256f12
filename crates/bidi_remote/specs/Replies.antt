-- What it means that a command gets one reply, with a result that fits the rule of its method. After WebDriver BiDi, "Protocol".
use Rattle.std.specs.Prelude.{◌≡◌, ℕ, List, ◌∷◌, ◌++◌, map, Some, IfOk, ⊤}
use Rattle.bidi_tree.specs.Node.{Node}
use Rattle.bidi_tree.specs.Text.{tree_of}
use Rattle.bidi_shape.specs.Term.{rule}
use Rattle.bidi_shape.specs.Fits.{Fits}
use Rattle.bidi_params.specs.declared.error_code.ErrorCode.{ErrorCode}
use Rattle.bidi_methods.specs.declared.event_data.EventName.{EventName}
use Rattle.bidi_methods.specs.declared.method.Method.{Method}
use Rattle.bidi_methods.specs.Method.{method_text, result_of}
use Rattle.bidi_messages.specs.Command.{method_in}
use Rattle.bidi_messages.specs.Message.{response_tree, response_text, error_text, event_text}
use Rattle.bidi_messages.specs.Verdict.{Accepted}
use Rattle.bidi_contexts.specs.Occurrences.{Occurrence}
use Rattle.bidi_browser.specs.Occurs.{Item, Happens, Replies}
use Rattle.bidi_remote.specs.Machine.Commands.{command_of, id_of_command}
use Rattle.bidi_remote.specs.Machine.History.{Input, Heard, Deed}
use Rattle.bidi_remote.specs.Machine.Outcome.{turn}
use Rattle.bidi_remote.specs.Machine.Sent.{action_in, items}

-- The response with this id and result reads back as such a response.
abbrev pub ReadsAs : ℕ → Node → Type 0
ReadsAs id result = tree_of (response_text id result) ≡ Some (response_tree id result)

-- The string is the message of an event.
abbrev pub IsEventText : List ℕ → Type 0
IsEventText s = (e : EventName) × (params : Node) × (s ≡ event_text e params)

-- The string is a reply to the command of this id and method: a response with a result that fits the rule of the method, or an error.
pub data IsReply (id : ℕ) (method : Method) : List ℕ → Type 0 where
  is_result : (result : Node) → Fits result (rule (result_of method)) → ReadsAs id result → IsReply id method (response_text id result)
  is_code : (code : ErrorCode) → IsReply id method (error_text (Some id) code)

-- The items have exactly one result, which fits the rule of the method, and the response with it reads back.
abbrev pub HasOneReply : ℕ → Method → List Item → Type 0
HasOneReply id method all =
    (before : List Occurrence) × (result : Node) × (after : List Occurrence) × (all ≡ map Happens before ++ Replies result ∷ map Happens after)
    × Fits result (rule (result_of method)) × ReadsAs id result

-- A command that does something gets exactly one reply, with a result of its method. Of other inputs nothing is said.
-- example: `session.status` gets one response, whose result is a StatusResult
abbrev pub IsAnsweredOnce : List Deed → Input → Type 0
IsAnsweredOnce past (Heard c (Accepted t)) =
    (method : Method) → method_in t ≡ method_text method
    → IfOk (turn past (Heard c (Accepted t))) (λ d. HasOneReply (id_of_command t) method (items past (action_in (command_of t)) d))
IsAnsweredOnce past i = ⊤
