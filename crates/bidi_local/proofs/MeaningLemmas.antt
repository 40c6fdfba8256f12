-- The meanings of responses, errors and events, given the pending commands.
use Rattle.std.proofs.Common.{◌≡◌, ◌∙◌, ◌==◌, not, Result, Ok, Err, IfOk, OnErr, ℕ, List, [], codes, Option, Some, None, option_map}
use Rattle.std.proofs.Common.{option_and_then, unwrap_or, bytes_eq, false, string_bytes, refl, sym, ap, ap₂, subst, pos}
use Rattle.std.specs.List.{AllByRecursion}
use Rattle.bidi_tree.specs.Node.{Node, Members, put, get_member, null, whole, text, map}
use Rattle.bidi_tree.specs.Kind.{text_in}
use Rattle.bidi_tree.proofs.MemberLemmas.{get_member-put, get_member-put_other}
use Rattle.bidi_shape.specs.Name.{command_response, error_response}
use Rattle.bidi_shape.specs.Term.{rule}
use Rattle.bidi_shape.specs.Fits.{Fits}
use Rattle.bidi_shape.specs.Parts.{put_part}
use Rattle.bidi_shape.specs.ChoiceLaws.{nullable_tree}
use Rattle.bidi_shape.specs.ValueLaws.{others_of}
use Rattle.bidi_methods.specs.declared.method.Method.{Method}
use Rattle.bidi_params.specs.declared.error_code.ErrorCode.{ErrorCode}
use Rattle.bidi_messages.specs.declared.message.Response.{Response}
use Rattle.bidi_messages.specs.declared.message.ErrorResponse.{ErrorResponse}
use Rattle.bidi_messages.specs.declared.event.Event.{Event as AnEvent}
use Rattle.bidi_messages.specs.contracts.message.ResponseShape.TheImpl as response
use Rattle.bidi_messages.specs.contracts.message.ErrorResponseShape.TheImpl as error
use Rattle.bidi_messages.specs.contracts.event.EventShape.TheImpl as event
use Rattle.bidi_methods.specs.contracts.event_data.EventDataPayloadEventName.TheImpl as told
use Rattle.bidi_methods.specs.Method.{result_of}
use Rattle.bidi_params.specs.ErrorCode.{error_code_text}
use Rattle.bidi_methods.specs.EventData.{event_of}
use Rattle.bidi_methods.specs.EventName.{event_name_text}
use Rattle.bidi_messages.specs.Verdict.{echoed_id}
use Rattle.bidi_messages.specs.Command.{id_in, params_in}
use Rattle.bidi_messages.proofs.CommandLemmas.{apart}
use Rattle.bidi_messages.proofs.MessageLemmas.{echoed_id-response, echoed_id-error, method_in-event}
use Rattle.bidi_local.specs.Pending.{Pending, method_of, without}
use Rattle.bidi_local.specs.Received.{Meaning, Answer, BadResult, Refusal, Event, Stray, NotInProfile, NotJson, Means, result_in, error_in}
use Rattle.bidi_local.specs.Received.{asked_by, settled, IsSettledBy, is_event, is_stray_response, is_stray_error, is_refusal, is_answer, is_bad_result}
use Rattle.bidi_local.specs.View.{meaning_of}
use Rattle.bidi_local.specs.declared.received.Taken.{Taken}
use Rattle.bidi_local.proofs.PendingLemmas.{AllByRecursion-filter}
use Rattle.bidi_local.specs.Receiving.{IsMeaningOf, IsOutcome, is_good, is_bad, IsRefusal, refuses, is_stray}

-- ---- the members of the trees other than an id

-- a member after two with other names
third : (i j k : List ℕ) (x y z : Node) (ms : Members) → bytes_eq k i ≡ false → bytes_eq k j ≡ false → get_member k (put i x (put j y (put k z ms))) ≡ Some z
third i j k x y z ms one two =
    get_member-put_other k i x (put j y (put k z ms)) (apart k i one) ∙ get_member-put_other k j y (put k z ms) (apart k j two) ∙ get_member-put k z ms

-- the result of a response
pub result_in-response : (r : Response) → result_in (response.ghosts.shape.tree_of r) ≡ map (others_of r.«result»)
result_in-response r =
    ap (λ o. unwrap_or o null) (third (codes "type") (codes "id") (codes "result") (text (codes "success")) (whole (pos r.id.value))
    (map (others_of r.«result»)) (others_of r.ext) refl refl)

-- the members of an error after its code
abbrev after_code : ErrorResponse → Members
after_code e =
    put (codes "message") (text (string_bytes e.message))
    (put_part (codes "stacktrace") (option_map (λ s. text (string_bytes s)) e.stacktrace) (others_of e.ext))

-- the code of an error
pub error_in-error : (e : ErrorResponse) → error_in (error.ghosts.shape.tree_of e) ≡ error_code_text e.error
error_in-error e =
    ap (λ o. unwrap_or (option_and_then text_in o) [])
    (third (codes "type") (codes "id") (codes "error") (text (codes "error")) (nullable_tree (λ n. whole (pos n.value)) e.id)
    (text (error_code_text e.error)) (after_code e) refl refl)

-- the params of an event
pub params_in-event : (e : AnEvent) → params_in (event.ghosts.shape.tree_of e) ≡ told.ghosts.payload.tree_of e.«data»
params_in-event e =
    ap (λ o. unwrap_or o null)
    (third (codes "type") (codes "method") (codes "params") (text (codes "event")) (text (event_name_text (event_of e.«data»)))
    (told.ghosts.payload.tree_of e.«data») (others_of e.ext) refl refl)

-- ---- the meaning of a tree

module _ (waiting : Pending) (t : Node) where
  -- the method of the command with the id of the tree
  asked : (id : ℕ) (o : Option Method) → echoed_id t ≡ Some id → method_of waiting id ≡ o → asked_by waiting t ≡ o
  asked id o has_id waits = ap (option_and_then (method_of waiting)) has_id ∙ waits

  id_is : (id : ℕ) → echoed_id t ≡ Some id → id_in t ≡ id
  id_is id has_id = ap (λ o. unwrap_or o 0) has_id

  pub outcome_means : (id : ℕ) (method : Method) (outcome : Node) (m : Meaning)
      → Fits t (rule command_response) → echoed_id t ≡ Some id → method_of waiting id ≡ Some method
      → result_in t ≡ outcome → IsOutcome id method outcome m → IsMeaningOf waiting t m
  outcome_means id method outcome m fit has_id waits has_result (is_good good) = λ s is.
      subst (λ p. Means waiting s p) (ap₂ (λ i o. Answer i method o) (id_is id has_id) has_result)
      (is_answer t method is fit (asked id (Some method) has_id waits) (subst (λ o. Fits o (rule (result_of method))) (sym has_result) good))
  outcome_means id method outcome m fit has_id waits has_result (is_bad bad) = λ s is.
      subst (λ p. Means waiting s p) (ap BadResult (id_is id has_id))
      (is_bad_result t method is fit (asked id (Some method) has_id waits) (λ good. bad (subst (λ o. Fits o (rule (result_of method))) has_result good)))

  pub refusal_means : (id : ℕ) (code : ErrorCode) (m : Meaning) → Fits t (rule error_response) → echoed_id t ≡ Some id → error_in t ≡ error_code_text code
      → IsRefusal waiting id code m → IsMeaningOf waiting t m
  refusal_means id code m fit has_id has_code (refuses method waits) = λ s is.
      subst (λ p. Means waiting s p) (ap (λ i. Refusal i code) (id_is id has_id))
      (is_refusal t method code is fit (asked id (Some method) has_id waits) has_code)
  refusal_means id code m fit has_id has_code (is_stray none) = λ s is. is_stray_error t is fit (asked id None has_id none)

-- ---- the meaning of a message

-- a response for no command that waits
pub response_stray : (waiting : Pending) (r : Response)
    → response.ghosts.shape.well r → method_of waiting r.id.value ≡ None → IsMeaningOf waiting (response.ghosts.shape.tree_of r) Stray
response_stray waiting r well none = λ s is.
    is_stray_response (response.ghosts.shape.tree_of r) is (response.ghosts.shape.fits r well)
    (asked waiting (response.ghosts.shape.tree_of r) r.id.value None (echoed_id-response r) none)

-- a response for a command that waits
pub response_means : (waiting : Pending) (r : Response) (method : Method) (m : Meaning)
    → response.ghosts.shape.well r → method_of waiting r.id.value ≡ Some method
    → IsOutcome r.id.value method (map (others_of r.«result»)) m → IsMeaningOf waiting (response.ghosts.shape.tree_of r) m
response_means waiting r method m well waits outcome =
    outcome_means waiting (response.ghosts.shape.tree_of r) r.id.value method (map (others_of r.«result»)) m
    (response.ghosts.shape.fits r well) (echoed_id-response r) waits (result_in-response r) outcome

-- it settles the command
pub outcome_settles : (waiting : Pending) {id : ℕ} {method : Method} {outcome : Node} {m : Meaning}
    → IsOutcome id method outcome m → settled waiting m ≡ without waiting id
outcome_settles waiting (is_good good) = refl
outcome_settles waiting (is_bad bad) = refl

-- which has that method
pub outcome_method : (waiting : Pending) {id : ℕ} (method : Method) {outcome : Node} {m : Meaning}
    → method_of waiting id ≡ Some method → IsOutcome id method outcome m → IsSettledBy waiting m (Some method)
outcome_method waiting method waits (is_good good) = (refl, waits)
outcome_method waiting method waits (is_bad bad) = (method, refl, waits)

-- an error with an id
pub error_means : (waiting : Pending) (e : ErrorResponse) (id : ℕ) (m : Meaning) → error.ghosts.shape.well e → option_map (λ n. n.value) e.id ≡ Some id
    → IsRefusal waiting id e.error m → IsMeaningOf waiting (error.ghosts.shape.tree_of e) m
error_means waiting e id m well has_id refusal =
    refusal_means waiting (error.ghosts.shape.tree_of e) id e.error m (error.ghosts.shape.fits e well) (echoed_id-error e ∙ has_id) (error_in-error e) refusal

-- an error with none
pub error_stray : (waiting : Pending) (e : ErrorResponse)
    → error.ghosts.shape.well e → option_map (λ n. n.value) e.id ≡ None → IsMeaningOf waiting (error.ghosts.shape.tree_of e) Stray
error_stray waiting e well no_id = λ s is.
    is_stray_error (error.ghosts.shape.tree_of e) is (error.ghosts.shape.fits e well) (ap (option_and_then (method_of waiting)) (echoed_id-error e ∙ no_id))

-- an event
pub event_means : (waiting : Pending) (e : AnEvent) → event.ghosts.shape.well e
    → IsMeaningOf waiting (event.ghosts.shape.tree_of e) (Event (event_of e.«data») (told.ghosts.payload.tree_of e.«data»))
event_means waiting e well = λ s is.
    subst (λ p. Means waiting s (Event (event_of e.«data») p)) (params_in-event e)
    (is_event (event.ghosts.shape.tree_of e) (event_of e.«data») is (event.ghosts.shape.fits e well) (method_in-event e))

-- ---- the pending commands that are left

-- a fact about all pending commands holds of those that are pending after a message
settled_holds : (P : ℕ × Method → Type 0) (waiting : Pending) (m : Meaning) → AllByRecursion P waiting → AllByRecursion P (settled waiting m)
settled_holds P waiting (Answer id method outcome) all = AllByRecursion-filter P (λ w. not (id == w.0)) waiting all
settled_holds P waiting (BadResult id) all = AllByRecursion-filter P (λ w. not (id == w.0)) waiting all
settled_holds P waiting (Refusal id code) all = AllByRecursion-filter P (λ w. not (id == w.0)) waiting all
settled_holds P waiting (Event e params) all = all
settled_holds P waiting Stray all = all
settled_holds P waiting NotInProfile all = all
settled_holds P waiting NotJson all = all

pub received_holds : {E : Type 0} (P : ℕ × Method → Type 0) (old new : Pending) (r : Result Taken E)
    → IfOk r (λ t. new ≡ settled old (meaning_of t.received)) → OnErr r (new ≡ old)
    → AllByRecursion P old → AllByRecursion P new
received_holds P old new (Ok t) settles err all = subst (AllByRecursion P) (sym settles) (settled_holds P old (meaning_of t.received) all)
received_holds P old new (Err e) settles err all = subst (AllByRecursion P) (sym err) all
