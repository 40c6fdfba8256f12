-- How a command is settled by an answer that is no message: the local end takes it for one that failed.
use Rattle.std.proofs.Common.{◌≡◌, ◌∙◌, ◌<◌, ◌^◌, ℕ, Bool, true, false, true≢false, List, Option, Some, None, Result, Err}
use Rattle.std.proofs.Common.{option_and_then, unwrap_or, bytes_eq, codes, is_some, arith, refl, sym, ap, subst}
use Rattle.std.specs.Prelude.{if◌then◌else◌}
use Rattle.bidi_tree.specs.Node.{Node}
use Rattle.bidi_tree.specs.Text.{tree_of}
use Rattle.bidi_tree.specs.declared.number.JsUint.{JsUint}
use Rattle.bidi_tree.proofs.RoundTrip.{tree_of-compact_text}
use Rattle.bidi_shape.specs.Name.{message}
use Rattle.bidi_shape.specs.Term.{rule}
use Rattle.bidi_shape.specs.Fits.{Fits}
use Rattle.bidi_shape.specs.Table.{same_some}
use Rattle.bidi_params.specs.declared.error_code.ErrorCode.{ErrorCode}
use Rattle.bidi_methods.specs.declared.method.Method.{Method}
use Rattle.bidi_messages.specs.Command.{id_in}
use Rattle.bidi_messages.specs.Message.{error_text, error_tree}
use Rattle.bidi_messages.specs.Reading.{IsMessageText, IsReadAs}
use Rattle.bidi_messages.specs.declared.message.Message.{Message}
use Rattle.bidi_messages.specs.declared.text.MessageFault.{MessageFault}
use Rattle.bidi_messages.specs.contracts.message.MessageShape.TheImpl.{ghosts}
use Rattle.bidi_messages.specs.Verdict.{echoed_id}
use Rattle.bidi_messages.proofs.CommandLemmas.{in_range}
use Rattle.bidi_messages.proofs.SendingLemmas.{error_fits}
use Rattle.bidi_local.specs.Pending.{Pending, method_of}
use Rattle.bidi_local.specs.Received as local
use Rattle.bidi_local.specs.Received.{Meaning, Means, asked_by, settled}
use Rattle.bidi_local.specs.Receiving.{IsMeaningOf}
use Rattle.bidi_local.specs.View.{Stands, waiting_in}
use Rattle.bidi_local.specs.declared.local_end.LocalEnd.{LocalEnd}
use Rattle.bidi_local.proofs.OneMeaning.{response_type, event_is_typed}
use Rattle.bidi_why.specs.Conversing.{Kept, Standing, answered, kind_in, lines_left, settled_id, was_refused, with_answer, without_command, without_refused}

-- an error reads back
pub error_reads : (id : ℕ) (code : ErrorCode) → id < 2 ^ 53 → tree_of (error_text (Some id) code) ≡ Some (error_tree (Some id) code)
error_reads id code small =
    tree_of-compact_text (error_tree (Some id) code)
    (((refl, (refl, (refl, tt))), ((refl, (refl, tt)), ((refl, tt), (tt, tt)))), (tt, (small, (tt, (tt, tt))))) (refl, omega arith)

-- the id of an error is that of its tree
echoes : (id : JsUint) (code : ErrorCode) → echoed_id (error_tree (Some id.value) code) ≡ Some id.value
echoes id code = in_range id.value id.in_range

-- an error means that the command of its id failed, or nothing where none waits
pub data IsErrorTo (w : Pending) (id : ℕ) : Meaning → Type 0 where
  waits : (method : Method) (code : ErrorCode) → method_of w id ≡ Some method → IsErrorTo w id (local.Refusal id code)
  none_waits : method_of w id ≡ None → IsErrorTo w id local.Stray

module _ (w : Pending) (id : JsUint) (code : ErrorCode) (s : List ℕ) (reads : tree_of s ≡ Some (error_tree (Some id.value) code)) where
  asked : (t : Node) (o : Option Method) → tree_of s ≡ Some t → asked_by w t ≡ o → method_of w id.value ≡ o
  asked t o is e =
      let same : t ≡ error_tree (Some id.value) code = same_some (sym is ∙ reads) in
      sym (ap (option_and_then (method_of w)) (ap echoed_id same ∙ echoes id code)) ∙ e

  no_response : (t : Node) → tree_of s ≡ Some t → kind_in t ≡ codes "success" → ⊥
  no_response t is e =
      let same : t ≡ error_tree (Some id.value) code = same_some (sym is ∙ reads) in
      let types : codes "error" ≡ codes "success" = sym (ap kind_in same) ∙ e in
      true≢false (ap (bytes_eq (codes "error")) types)

  no_event : (t : Node) → tree_of s ≡ Some t → kind_in t ≡ codes "event" → ⊥
  no_event t is e =
      let same : t ≡ error_tree (Some id.value) code = same_some (sym is ∙ reads) in
      let types : codes "error" ≡ codes "event" = sym (ap kind_in same) ∙ e in
      true≢false (ap (bytes_eq (codes "error")) types)

  pub means_error : (m : Meaning) → Means w s m → IsErrorTo w id.value m
  means_error m (local.is_not_json none) = absurd cc
  means_error m (local.is_no_message t is misfit) =
      let same : t ≡ error_tree (Some id.value) code = same_some (sym is ∙ reads) in
      absurd (misfit (subst (λ (x : Node). Fits x (rule message)) (sym same) (error_fits (Some id) code)))
  means_error m (local.is_event t ev is f named) = absurd (no_event t is (event_is_typed t f))
  means_error m (local.is_stray_response t is f none) = absurd (no_response t is (response_type t f))
  means_error m (local.is_stray_error t is f none) = none_waits (asked t None is none)
  means_error m (local.is_refusal t method c is f by e) =
      let same : t ≡ error_tree (Some id.value) code = same_some (sym is ∙ reads) in
      let is_id : id_in t ≡ id.value = ap (λ o. unwrap_or o 0) (ap echoed_id same ∙ echoes id code) in
      subst (λ (n : ℕ). IsErrorTo w id.value (local.Refusal n c)) (sym is_id) (waits method c (asked t (Some method) is by))
  means_error m (local.is_answer t method is f by g) = absurd (no_response t is (response_type t f))
  means_error m (local.is_bad_result t method is f by g) = absurd (no_response t is (response_type t f))

-- ---- what stands behind it

module _ (old new : LocalEnd) (lines lines' : List (ℕ × ℕ)) (refused : List Kept) (id : ℕ) (last : ℕ) where
  abbrev before : Standing
  before = record { waiting = waiting_in old; lines = lines; refused = refused }

  abbrev after : Standing
  after = record { waiting = waiting_in new; lines = lines'; refused = refused }

  -- the command waited, as is told, and waits no longer
  pub record Settles (b : Bool) : Type 0 where
    pub waited : b ≡ is_some (method_of (waiting_in old) id)
    pub behind : after ≡ (if b then without_command id before else before)

  pub settles : (m : Meaning) → IsErrorTo (waiting_in old) id m → Stands new last (settled (waiting_in old) m) → lines' ≡ lines_left (settled_id m) lines
      → Settles (is_some (settled_id m))
  settles m (waits method code e) stands left = record {
    waited = sym (ap is_some e);
    behind = λ i. record { waiting = stands.waiting i; lines = left i; refused = refused };
  }
  settles m (none_waits e) stands left = record {
    waited = sym (ap is_some e);
    behind = λ i. record { waiting = stands.waiting i; lines = left i; refused = refused };
  }

-- the same of an error that was read
pub settled_by_error : (old new : LocalEnd) (lines lines' : List (ℕ × ℕ)) (refused : List Kept) (id : JsUint) (last : ℕ) (code : ErrorCode) (t : Node)
    (m : Meaning) (o : Option ℕ) (b : Bool) → t ≡ error_tree (Some id.value) code → IsMeaningOf (waiting_in old) t m
    → Stands new last (settled (waiting_in old) m) → o ≡ settled_id m → lines' ≡ lines_left o lines → is_some o ≡ b
    → Settles old new lines lines' refused id.value last b
settled_by_error old new lines lines' refused id last code t m o b is means stands told left some =
    let reads = error_reads id.value code id.in_range in
    let meant = means (error_text (Some id.value) code) (reads ∙ ap (λ (x : Node). Some x) (sym is)) in
    let error = means_error (waiting_in old) id code (error_text (Some id.value) code) reads m meant in
    let at = left ∙ ap (λ (x : Option ℕ). lines_left x lines) told in
    subst (Settles old new lines lines' refused id.value last) (ap is_some (sym told) ∙ some)
    (settles old new lines lines' refused id.value last m error stands at)

-- the text of an error reads as a message
pub reads_error : (s : List ℕ) (id : JsUint) (code : ErrorCode) (t : Node) → s ≡ error_text (Some id.value) code → tree_of s ≡ Some t
    → t ≡ error_tree (Some id.value) code
reads_error s id code t is tree = same_some (sym tree ∙ ap tree_of is ∙ error_reads id.value code id.in_range)

pub never : (f g : MessageFault) (s : List ℕ) → f ≡ g
    → (IsMessageText ghosts.shape s → IsReadAs ghosts.shape s (let r : Result Message MessageFault = Err f in r)) → IsMessageText ghosts.shape s
    → IsReadAs ghosts.shape s (let r : Result Message MessageFault = Err g in r)
never f g s is reads text = subst (λ (x : MessageFault). IsReadAs ghosts.shape s (let r : Result Message MessageFault = Err x in r)) is (reads text)

-- ---- what an answer that is no message does

module _ (s mid s' : Standing) (id : ℕ) (b c : Bool) (waited : b ≡ is_some (method_of s.waiting id))
    (first : mid ≡ (if b then without_command id s else s)) where
  pub answers_waiting : b ≡ true → (Some id ≡ answered (Some id) s) × (mid ≡ with_answer (Some id) s)
  answers_waiting e =
      let is : is_some (method_of s.waiting id) ≡ true = sym waited ∙ e in
      let told : answered (Some id) s ≡ Some id = rw is refl in
      let with' : with_answer (Some id) s ≡ without_command id s = rw is refl in
      let now : mid ≡ without_command id s = first ∙ ap (λ (x : Bool). if x then without_command id s else s) e in
      (sym told, now ∙ sym with')

  module _ (was : c ≡ was_refused (Some id) mid) (second : s' ≡ (if c then without_refused (Some id) mid else mid)) (e : b ≡ false) where
    same : mid ≡ s
    same = first ∙ ap (λ (x : Bool). if x then without_command id s else s) e

    none : is_some (method_of s.waiting id) ≡ false
    none = sym waited ∙ e

    pub answers_refused : c ≡ true → (Some id ≡ answered (Some id) s) × (s' ≡ with_answer (Some id) s)
    answers_refused f =
        let is : was_refused (Some id) s ≡ true = ap (was_refused (Some id)) (sym same) ∙ sym was ∙ f in
        let told : answered (Some id) s ≡ Some id = rw none (rw is refl) in
        let with' : with_answer (Some id) s ≡ without_refused (Some id) s = rw none (rw is refl) in
        let now : s' ≡ without_refused (Some id) s =
        second ∙ ap (λ (x : Bool). if x then without_refused (Some id) mid else mid) f ∙ ap (without_refused (Some id)) same in
        (sym told, now ∙ sym with')

    pub answers_none : c ≡ false → (None ≡ answered (Some id) s) × (s' ≡ with_answer (Some id) s)
    answers_none f =
        let is : was_refused (Some id) s ≡ false = ap (was_refused (Some id)) (sym same) ∙ sym was ∙ f in
        let told : answered (Some id) s ≡ None = rw none (rw is refl) in
        let with' : with_answer (Some id) s ≡ s = rw none (rw is refl) in
        let now : s' ≡ s = second ∙ ap (λ (x : Bool). if x then without_refused (Some id) mid else mid) f ∙ same in
        (sym told, now ∙ sym with')
