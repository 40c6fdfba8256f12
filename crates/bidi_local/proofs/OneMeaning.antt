-- A text has one meaning. Two questions decide it: whether its tree fits a message, and whether it is a good response.
use Rattle.std.proofs.Common.{◌≡◌, ◌∙◌, ℕ, Bool, true, false, if◌then◌else◌, bytes_eq, List, [], codes, Option, Some}
use Rattle.std.proofs.Common.{None, option_and_then, unwrap_or, refl, sym, ap, ap₂, subst}
use Rattle.bidi_tree.specs.Node.{Node, get_of}
use Rattle.bidi_tree.specs.Kind.{text_in}
use Rattle.bidi_tree.specs.Text.{tree_of}
use Rattle.bidi_shape.specs.Name.{message, command_response, error_response, event}
use Rattle.bidi_shape.specs.Term.{Rows, Openness, required, exactly, map_of, row, rule}
use Rattle.bidi_shape.specs.Fits.{Fits, fits_rule, fits_first, fits_second}
use Rattle.bidi_shape.specs.Table.{same_some}
use Rattle.bidi_shape.specs.WordLaws.{word_shape, value_named}
use Rattle.bidi_shape.proofs.FitsLemmas.{exactly_kind, map_kind, map_inside, RowFits, row_inside, rule_inside}
use Rattle.bidi_messages.specs.Event.{event_type_words}
use Rattle.bidi_messages.specs.Envelope.{envelope_inside}
use Rattle.bidi_methods.specs.declared.method.Method.{Method}
use Rattle.bidi_params.specs.declared.error_code.ErrorCode.{ErrorCode}
use Rattle.bidi_methods.specs.declared.event_data.EventName.{EventName}
use Rattle.bidi_methods.specs.Method.{result_of}
use Rattle.bidi_params.specs.ErrorCode.{error_code_words}
use Rattle.bidi_methods.specs.EventName.{event_words}
use Rattle.bidi_messages.specs.Command.{id_in, method_in, params_in}
use Rattle.bidi_methods.specs.contracts.event_data.EventDataPayloadEventName.TheImpl as told
use Rattle.bidi_messages.proofs.CommandLemmas.{apart}
use Rattle.bidi_local.specs.Pending.{Pending}
use Rattle.bidi_local.specs.Received.{Meaning, Answer, BadResult, Refusal, Event, Stray, NotInProfile, NotJson, Means}
use Rattle.bidi_local.specs.Received.{result_in, error_in, asked_by, is_not_json, is_no_message, is_event}
use Rattle.bidi_local.specs.Received.{is_stray_response, is_stray_error, is_refusal, is_answer, is_bad_result}

-- ---- the member `type`

abbrev pub type_in : Node → List ℕ
type_in t = unwrap_or (option_and_then text_in (get_of (codes "type") t)) []

typed : (o : Option Node) (s : List ℕ) → RowFits required (exactly s) o → unwrap_or (option_and_then text_in o) [] ≡ s
typed (Some t) s fit = ap (λ u. unwrap_or (text_in u) []) (exactly_kind fit)
typed None s fit = absurd fit

-- a map with such a row has that type
typed_map : {t : Node} {s : List ℕ} {rows : Rows} {o : Openness} → Fits t (map_of (row (codes "type") required (exactly s) rows) o) → type_in t ≡ s
typed_map {t} {s} {rows} {o} fit =
    let is = map_kind fit in
    let inside = map_inside (subst (λ u. Fits u (map_of (row (codes "type") required (exactly s) rows) o)) is.1 fit) in
    ap type_in is.1 ∙ typed _ s (row_inside inside.0).0

pub response_type : (t : Node) → Fits t (rule command_response) → type_in t ≡ codes "success"
response_type t fit = typed_map (rule_inside fit)

pub error_type : (t : Node) → Fits t (rule error_response) → type_in t ≡ codes "error"
error_type t fit = typed_map (rule_inside fit)

pub event_is_typed : (t : Node) → Fits t (rule event) → type_in t ≡ codes "event"
event_is_typed t fit = typed_map (envelope_inside (codes "type") (word_shape event_type_words) event_words told.ghosts.payload (rule event) refl t fit).1

-- ---- the two questions that decide

-- the answer to a question
data Holds (P : Type 0) : Bool → Type 0 where
  it_does : P → Holds P true
  it_does_not : (P → ⊥) → Holds P false

one_answer : {P : Type 0} {a b : Bool} → Holds P a → Holds P b → a ≡ b
one_answer (it_does p) (it_does q) = refl
one_answer (it_does p) (it_does_not q) = absurd (q p)
one_answer (it_does_not p) (it_does q) = absurd (p q)
one_answer (it_does_not p) (it_does_not q) = refl

abbrev IsMessage : Option Node → Type 0
IsMessage None = ⊥
IsMessage (Some t) = Fits t (rule message)

-- a response to a command that waits, with a result of its method
abbrev IsGood : Pending → Option Node → Type 0
IsGood waiting None = ⊥
IsGood waiting (Some t) =
    Fits t (rule command_response) × ((method : Method) × ((asked_by waiting t ≡ Some method) × Fits (result_in t) (rule (result_of method))))

abbrev of_event : Node → Option EventName → Meaning
of_event t None = NotInProfile
of_event t (Some e) = Event e (params_in t)

abbrev of_error : Node → Option Method → Option ErrorCode → Meaning
of_error t None code = Stray
of_error t (Some method) None = NotInProfile
of_error t (Some method) (Some code) = Refusal (id_in t) code

abbrev of_response : Node → Option Method → Bool → Meaning
of_response t None good = Stray
of_response t (Some method) true = Answer (id_in t) method (result_in t)
of_response t (Some method) false = BadResult (id_in t)

-- the meaning of a message of this type
abbrev of_type : Pending → Node → Bool → List ℕ → Meaning
of_type waiting t good s =
    if bytes_eq s (codes "event") then of_event t (value_named event_words.first event_words.rest (method_in t))
    else if bytes_eq s (codes "error") then of_error t (asked_by waiting t) (value_named error_code_words.first error_code_words.rest (error_in t))
    else of_response t (asked_by waiting t) good

-- the meaning of a text with this tree, given these answers
abbrev decided : Pending → Option Node → Bool → Bool → Meaning
decided waiting None is_message good = NotJson
decided waiting (Some t) false good = NotInProfile
decided waiting (Some t) true good = of_type waiting t good (type_in t)

-- ---- each meaning is decided so

record IsDecided (waiting : Pending) (o : Option Node) (m : Meaning) : Type 0 where
  is_message : Bool
  good : Bool
  message_holds : Holds (IsMessage o) is_message
  good_holds : Holds (IsGood waiting o) good
  is : m ≡ decided waiting o is_message good

none_is_some : {A : Type 0} {a : A} → None ≡ Some a → ⊥
none_is_some e = cc

module _ (waiting : Pending) (t : Node) where
  response_fits : Fits t (rule command_response) → Fits t (rule message)
  response_fits fit = fits_rule t message (fits_first t _ _ fit)

  error_fits : Fits t (rule error_response) → Fits t (rule message)
  error_fits fit = fits_rule t message (fits_second t _ _ (fits_first t _ _ fit))

  event_fits : Fits t (rule event) → Fits t (rule message)
  event_fits fit = fits_rule t message (fits_second t _ _ (fits_second t _ _ fit))

  -- a message of another type is no response
  other : (s : List ℕ) → type_in t ≡ s → bytes_eq (codes "success") s ≡ false → IsGood waiting (Some t) → ⊥
  other s is differ good = apart (codes "success") s differ (sym (response_type t good.0) ∙ is)

  -- a response that waits for no answer is not good
  unasked : asked_by waiting t ≡ None → IsGood waiting (Some t) → ⊥
  unasked none good = none_is_some (sym none ∙ good.1.1.0)

  no_message : (Fits t (rule message) → ⊥) → IsDecided waiting (Some t) NotInProfile
  no_message misfit =
      record {
        is_message = false;
        good = false;
        message_holds = it_does_not misfit;
        good_holds = it_does_not (λ good. misfit (response_fits good.0));
        is = refl;
      }

  an_event : (e : EventName) → Fits t (rule event) → method_in t ≡ event_words.text_of e → IsDecided waiting (Some t) (Event e (params_in t))
  an_event e fit method = record {
    is_message = true;
    good = false;
    message_holds = it_does (event_fits fit);
    good_holds = it_does_not (other (codes "event") (event_is_typed t fit) refl);
    is =
        sym (ap (of_type waiting t false) (event_is_typed t fit)
        ∙ ap (of_event t) (ap (value_named event_words.first event_words.rest) method ∙ event_words.names_it e));
  }

  an_error : (o : Option Method) (m : Meaning) → Fits t (rule error_response)
      → of_error t o (value_named error_code_words.first error_code_words.rest (error_in t)) ≡ m → asked_by waiting t ≡ o
      → IsDecided waiting (Some t) m
  an_error o m fit is asked = record {
    is_message = true;
    good = false;
    message_holds = it_does (error_fits fit);
    good_holds = it_does_not (other (codes "error") (error_type t fit) refl);
    is =
        sym (ap (of_type waiting t false) (error_type t fit)
        ∙ ap (λ a. of_error t a (value_named error_code_words.first error_code_words.rest (error_in t))) asked ∙ is);
  }

  a_response : (o : Option Method) (good : Bool) → Fits t (rule command_response)
      → Holds (IsGood waiting (Some t)) good → asked_by waiting t ≡ o → IsDecided waiting (Some t) (of_response t o good)
  a_response o good fit holds asked = record {
    is_message = true;
    good = good;
    message_holds = it_does (response_fits fit);
    good_holds = holds;
    is = sym (ap (of_type waiting t good) (response_type t fit) ∙ ap (λ a. of_response t a good) asked);
  }

  -- a result that does not fit the rule of the method is not good
  misfit_is_bad : (method : Method) → asked_by waiting t ≡ Some method → (Fits (result_in t) (rule (result_of method)) → ⊥) → IsGood waiting (Some t) → ⊥
  misfit_is_bad method asked bad good = bad (subst (λ k. Fits (result_in t) (rule (result_of k))) (same_some (sym good.1.1.0 ∙ asked)) good.1.1.1)

module _ (waiting : Pending) (s : List ℕ) where
  read : (t : Node) (m : Meaning) → tree_of s ≡ Some t → IsDecided waiting (Some t) m → IsDecided waiting (tree_of s) m
  read t m is d = subst (λ o. IsDecided waiting o m) (sym is) d

  is_decided : {m : Meaning} → Means waiting s m → IsDecided waiting (tree_of s) m
  is_decided (is_not_json none) =
      subst (λ o. IsDecided waiting o NotJson) (sym none)
      (record { is_message = false; good = false; message_holds = it_does_not (λ h. h); good_holds = it_does_not (λ h. h); is = refl })
  is_decided (is_no_message t is misfit) = read t _ is (no_message waiting t misfit)
  is_decided (is_event t e is fit method) = read t _ is (an_event waiting t e fit method)
  is_decided (is_stray_response t is fit none) = read t _ is (a_response waiting t None false fit (it_does_not (unasked waiting t none)) none)
  is_decided (is_stray_error t is fit none) = read t _ is (an_error waiting t None Stray fit refl none)
  is_decided (is_refusal t method code is fit asked named) =
      read t _ is
      (an_error waiting t (Some method) (Refusal (id_in t) code) fit
      (ap (of_error t (Some method)) (ap (value_named error_code_words.first error_code_words.rest) named ∙ error_code_words.names_it code)) asked)
  is_decided (is_answer t method is fit asked good) = read t _ is (a_response waiting t (Some method) true fit (it_does (fit, (method, (asked, good)))) asked)
  is_decided (is_bad_result t method is fit asked bad) =
      read t _ is (a_response waiting t (Some method) false fit (it_does_not (misfit_is_bad waiting t method asked bad)) asked)

-- a text has one meaning
pub one_meaning : (waiting : Pending) (s : List ℕ) (m n : Meaning) → Means waiting s m → Means waiting s n → m ≡ n
one_meaning waiting s m n p q =
    let a = is_decided waiting s p in
    let b = is_decided waiting s q in
    a.is ∙ ap₂ (decided waiting (tree_of s)) (one_answer a.message_holds b.message_holds) (one_answer a.good_holds b.good_holds) ∙ sym b.is
