-- How a line of a conversation is heard.
use Rattle.std.proofs.Common.{◌≡◌, ◌∙◌, ℕ, Bool, true, false, true≢false, List, [], ◌∷◌, ◌++◌, length, Option, Some, None, Result, Ok, Err, IfOk}
use Rattle.std.proofs.Common.{option_and_then, option_map, unwrap_or, bytes_eq, codes, refl, sym, ap, ap₂, subst}
use Rattle.std.specs.Prelude.{take, drop, IsUtf8, ◌==◌, ◌+◌, if◌then◌else◌, MatchOption}
use Rattle.std.specs.Borrow.{Bor}
use Rattle.std.specs.Cmp.Lexicographic.{bytes_decides, pointwise}
use Rattle.std.proofs.lemmas.List.{take-append-drop}
use Rattle.std.proofs.Math.Seq.{take-append_seam}
use Rattle.bidi_tree.specs.Node.{Node}
use Rattle.bidi_tree.specs.Text.{tree_of, tree_of_text}
use Rattle.bidi_shape.specs.Name.{message, event}
use Rattle.bidi_shape.specs.Term.{rule}
use Rattle.bidi_shape.specs.Fits.{Fits}
use Rattle.bidi_shape.specs.Table.{same_some}
use Rattle.bidi_methods.specs.declared.method.Method.{Method}
use Rattle.bidi_methods.specs.Method.{method_text, result_of}
use Rattle.bidi_messages.specs.Command.{id_in, method_in}
use Rattle.bidi_messages.specs.Verdict as verdict
use Rattle.bidi_messages.specs.Verdict.{echoed_id}
use Rattle.bidi_local.specs.Pending.{Pending, method_of}
use Rattle.bidi_local.specs.Received as local
use Rattle.bidi_local.specs.Received.{Meaning, Means, asked_by, result_in, settled}
use Rattle.bidi_local.specs.Receiving.{IsMeaningOf}
use Rattle.bidi_show.specs.MessageLines as shows
use Rattle.bidi_show.specs.MessageLines.{HasVerdict, Refuses, verdict_shown}
use Rattle.bidi_lines.specs.declared.side.Side.TheVariants.{Local, Remote}
use Rattle.bidi_why.specs.Conversing.{Hears, HearsLine, Standing, is_marked, is_no_text, is_refused, is_text, is_too_long, mark_of, refused_words, is_message, is_one_too_many, is_sent, is_sent_twice, IsTold, behind, kind_in, of_answer, of_event, of_failure, of_refused, of_result, of_stray, was_refused, with_command, with_refused, without_refused}
use Rattle.bidi_why.specs.Conversing.{answered, is_no_message, kept_of, lines_left, settled_id, with_answer}
use Rattle.bidi_remarks.specs.Results.{HasBadResult, HasResultMisfit, TellsBadResult}
use Rattle.bidi_why.specs.Hearing.{Notes, Takes}
use Rattle.bidi_why.specs.Hearing as hearing
use Rattle.bidi_remarks.specs.Trouble.{IsIdIn, IsTrouble, Trouble, begins_with_mark}
use Rattle.bidi_why.specs.Input.{IsOf}
use Rattle.bidi_remarks.specs.declared.bad_text.BadText.TheVariants.{ByteOrderMark, NoDirection, TooLong}
use Rattle.bidi_why.specs.declared.next_line.Line.{Line}
use Rattle.bidi_why.specs.declared.next_line.Line.TheVariants as line
use Rattle.bidi_lines.specs.InputLines.{IsLine}
use Rattle.bidi_lines.specs.declared.side.Side.{Side}
use Rattle.bidi_messages.specs.Reading.{IsCause}
use Rattle.bidi_messages.specs.declared.text.MessageFault.{MessageFault}
use Rattle.bidi_messages.specs.declared.text.MessageFault.TheVariants.{NotJson, NoFit}
use Rattle.bidi_why.specs.Hearing.{IsJudged, IsSender, IsStray, to_none, to_refused}
use Rattle.bidi_remarks.specs.Remark.{Remark, bad_line, fault, failed, id_waits, no_message, stray, too_many}
use Rattle.bidi_why.specs.Conversing.{Kept, of_id}
use Rattle.bidi_why.specs.declared.judging.Judged.{Judged}
use Rattle.bidi_why.specs.declared.judging.Judged.TheVariants as judged
use Rattle.bidi_params.specs.declared.error_code.ErrorCode.{ErrorCode}
use Rattle.bidi_tree.specs.declared.number.JsUint.{JsUint}
use Rattle.bidi_messages.specs.contracts.message.MessageShape.TheImpl as message_shape
use Rattle.bidi_messages.specs.contracts.message.ResponseShape.TheImpl as response
use Rattle.bidi_messages.specs.contracts.message.ErrorResponseShape.TheImpl as error
use Rattle.bidi_messages.specs.contracts.event.EventShape.TheImpl as event_shape
use Rattle.bidi_messages.specs.declared.message.Message.{Message}
use Rattle.bidi_messages.specs.declared.message.Message.TheVariants as in_hand
use Rattle.bidi_messages.specs.declared.message.Response.{Response}
use Rattle.bidi_messages.specs.declared.message.ErrorResponse.{ErrorResponse}
use Rattle.bidi_messages.specs.declared.event.Event.{Event}
use Rattle.bidi_messages.proofs.MessageLemmas.{echoed_id-response, echoed_id-error}
use Rattle.bidi_local.proofs.OneMeaning.{response_type, error_type, event_is_typed}
use Rattle.bidi_local.specs.Outcome.{IsOutcomeOf}
use Rattle.bidi_local.specs.declared.outcome.Outcome as outcome
use Rattle.bidi_local.specs.declared.outcome.Outcome.TheVariants as out
use Rattle.bidi_local.specs.Pending.{IsNoted, note_refusal}
use Rattle.bidi_local.specs.View.{Stands, waiting_in}
use Rattle.bidi_local.specs.declared.local_end.LocalEnd.{LocalEnd}
use Rattle.bidi_local.specs.declared.local_end.NoteFault.{NoteFault}
use Rattle.bidi_local.specs.declared.local_end.NoteFault.TheVariants.{IdWaits, TooManyPending}

-- ---- texts of the local end

-- an accepted command is heard as it is noted
pub noted : (n : ℕ) (s : Standing) (text : List ℕ) (t : Node) (id : ℕ) (method : Method) (s' : Standing) (o : Option Remark)
    → HasVerdict text (verdict.Accepted t) → id_in t ≡ id → method_in t ≡ method_text method → Notes n s id method o s' → Hears n s text Local o s'
noted n s text t id method s' o judged is_id is_method (hearing.waits e) =
    subst (λ (i : ℕ). Hears n s text Local None (with_command n i method s)) is_id
    (is_sent t method judged is_method (ap (note_refusal s.waiting) is_id ∙ e))
noted n s text t id method s' o judged is_id is_method (hearing.is_twice e) =
    subst (λ (i : ℕ). Hears n s text Local (Some (id_waits i method)) s) is_id
    (is_sent_twice t method judged is_method (ap (note_refusal s.waiting) is_id ∙ e))
noted n s text t id method s' o judged is_id is_method (hearing.is_one_too_many e) =
    subst (λ (i : ℕ). Hears n s text Local (Some (too_many i method)) (with_refused (of_id i) s)) is_id
    (is_one_too_many t method judged is_method (ap (note_refusal s.waiting) is_id ∙ e))

-- ---- texts of the remote end

-- a text that is no UTF-8 is refused, and so is one that is no JSON or fits no message
pub no_text_refused : (line : List ℕ) → (IsUtf8 line → ⊥) → Refuses Remote line (Some (codes "not json"))
no_text_refused line none = (_, shows.is_no_text none, refl)

no_json_refused : (line : List ℕ) → IsUtf8 line → tree_of_text None line ≡ None → Refuses Remote line (Some (codes "not json"))
no_json_refused line is none = (_, shows.is_not_json is none, refl)

no_fit_refused : (line : List ℕ) → IsUtf8 line → ((t : Node) × (tree_of_text None line ≡ Some t) × (Fits t (rule message) → ⊥))
    → Refuses Remote line (Some (codes "no fit"))
no_fit_refused line is (t, tree, misfit) = (_, shows.fits_none t (is, tree) misfit, refl)

-- a message is heard as it is taken
taken : (n : ℕ) (s s' : Standing) (line text : List ℕ) (t : Node) (o : Option Remark) → (text ≡ line) × IsUtf8 line → tree_of text ≡ Some t → Takes s t o s'
    → Hears n s line Remote o s'
taken n s s' line text t o (same, is) tree (meaning, means, told) =
    let here : tree_of line ≡ Some t = subst (λ (l : List ℕ). tree_of l ≡ Some t) same tree in
    is_message t meaning o s' is here (means line here) told

-- ---- what a meaning says

-- the command that a tree answers waits under its id
asked_waits : (waiting : Pending) (t : Node) (method : Method) → asked_by waiting t ≡ Some method → method_of waiting (id_in t) ≡ Some method
asked_waits waiting t method e = go (echoed_id t) refl e
  where
    go : (o : Option ℕ) → echoed_id t ≡ o → option_and_then (method_of waiting) o ≡ Some method → method_of waiting (id_in t) ≡ Some method
    go None is e = absurd cc
    go (Some n) is e = ap (method_of waiting) (ap (λ x. unwrap_or x 0) is) ∙ e

-- a bad result does not fit the rule of the method of its command
misfit_of : (waiting : Pending) (s : List ℕ) (m : Meaning) (id : ℕ) (method : Method) → Means waiting s m → m ≡ local.BadResult id
    → method_of waiting id ≡ Some method → HasBadResult s method
misfit_of waiting s (local.BadResult n) id method (local.is_bad_result t asked is fit by bad) e waits =
    let same : id_in t ≡ id = cc in
    let methods : asked ≡ method = same_some (sym (asked_waits waiting t asked by) ∙ ap (method_of waiting) same ∙ waits) in
    (t, is, subst (λ (x : Method). Fits (result_in t) (rule (result_of x)) → ⊥) methods bad)
misfit_of waiting s m id method (local.is_not_json a) e waits = absurd cc
misfit_of waiting s m id method (local.is_no_message t a b) e waits = absurd cc
misfit_of waiting s m id method (local.is_event t ev a b c) e waits = absurd cc
misfit_of waiting s m id method (local.is_stray_response t a b c) e waits = absurd cc
misfit_of waiting s m id method (local.is_stray_error t a b c) e waits = absurd cc
misfit_of waiting s m id method (local.is_refusal t mm cd a b c d) e waits = absurd cc
misfit_of waiting s m id method (local.is_answer t mm a b c d) e waits = absurd cc

-- ---- marks

-- a line that begins with a mark
marked : (line mark text : List ℕ) → pointwise ◌==◌ (take (length mark) line) mark ≡ true → text ≡ drop (length mark) line → line ≡ mark ++ text
marked line mark text begins is =
    sym (take-append-drop (length mark) line) ∙ ap₂ (λ (a b : List ℕ). a ++ b) ((bytes_decides (take (length mark) line) mark).0 begins) (sym is)

-- one that does not
unmarked : (line mark text : List ℕ) → pointwise ◌==◌ (take (length mark) line) mark ≡ false → line ≡ mark ++ text → ⊥
unmarked line mark text begins e =
    true≢false (sym ((bytes_decides (take (length mark) line) mark).1 (ap (take (length mark)) e ∙ take-append_seam mark text)) ∙ begins)

-- what is found behind a mark stands there
pub text_marked : (line mark : List ℕ) (r : Option (Bor (List ℕ)))
    → MatchOption r (pointwise ◌==◌ (take (length mark) line) mark ≡ false)
    (λ x. (pointwise ◌==◌ (take (length mark) line) mark ≡ true) × (x.now ≡ drop (length mark) line) × (length x.now + length mark ≡ length line))
    → MatchOption r ((text : List ℕ) → line ≡ mark ++ text → ⊥) (λ text. line ≡ mark ++ text.now)
text_marked line mark (Some x) h = marked line mark x.now h.0 h.1
text_marked line mark None h = λ text. unmarked line mark text h

-- ---- who a message is from

pub from_response : (m : Message) (r : Response) → message_shape.ghosts.shape.well m → m ≡ in_hand.Response r
    → IsSender (message_shape.ghosts.shape.tree_of m) (Some r.id.value) (codes "success")
from_response m r well is =
    subst (λ (x : Message). IsSender (message_shape.ghosts.shape.tree_of x) (Some r.id.value) (codes "success")) (sym is)
    (hearing.of_answer (sym (echoed_id-response r)) (sym (response_type (response.ghosts.shape.tree_of r)
    (response.ghosts.shape.fits r (subst message_shape.ghosts.shape.well is well)))))

pub from_error : (m : Message) (e : ErrorResponse) → message_shape.ghosts.shape.well m → m ≡ in_hand.Error e
    → IsSender (message_shape.ghosts.shape.tree_of m) (option_map (λ n. n.value) e.id) (codes "error")
from_error m e well is =
    subst (λ (x : Message). IsSender (message_shape.ghosts.shape.tree_of x) (option_map (λ n. n.value) e.id) (codes "error")) (sym is)
    (hearing.of_answer (sym (echoed_id-error e)) (sym (error_type (error.ghosts.shape.tree_of e)
    (error.ghosts.shape.fits e (subst message_shape.ghosts.shape.well is well).0))))

pub from_event : (m : Message) (e : Event) (id : Option ℕ) (kind : List ℕ) → message_shape.ghosts.shape.well m → m ≡ in_hand.Event e
    → IsSender (message_shape.ghosts.shape.tree_of m) id kind
from_event m e id kind well is =
    subst (λ (x : Message). IsSender (message_shape.ghosts.shape.tree_of x) id kind) (sym is)
    (hearing.of_event (event_shape.ghosts.shape.fits e (subst message_shape.ghosts.shape.well is well).0.0))

-- ---- noting

module _ (n : ℕ) (old new : LocalEnd) (lines : List (ℕ × ℕ)) (refused : List Kept) (id : ℕ) (method : Method) (last : ℕ) where
  abbrev unsaid : Standing
  unsaid = record { waiting = waiting_in old; lines = lines; refused = refused }

  -- a command that is noted waits
  pub notes_sent : (lines' : List (ℕ × ℕ)) → note_refusal (waiting_in old) id ≡ None → Stands new last (waiting_in old ++ (id, method) ∷ [])
      → lines' ≡ lines ++ (id, n) ∷ []
      → Notes n unsaid id method None (record { waiting = waiting_in new; lines = lines'; refused = refused })
  notes_sent lines' e stands more =
      subst (λ (w : Pending). Notes n unsaid id method None (record { waiting = w; lines = lines'; refused = refused })) (sym stands.waiting)
      (subst (λ (ls : List (ℕ × ℕ)). Notes n unsaid id method None (record { waiting = waiting_in old ++ (id, method) ∷ []; lines = ls; refused = refused }))
      (sym more) (hearing.waits e))

  -- one that is not changes nothing
  pub notes_twice : (A : Type 0) (f : NoteFault) (o : Remark) → f ≡ IdWaits
      → IsNoted (let r : Result A NoteFault = Err f in r) (note_refusal (waiting_in old) id) → Stands new last (waiting_in old) → o ≡ id_waits id method
      → Notes n unsaid id method (Some o) (record { waiting = waiting_in new; lines = lines; refused = refused })
  notes_twice A f o is noted stands e =
      let refusal = subst (λ (x : NoteFault). IsNoted (let r : Result A NoteFault = Err x in r) (note_refusal (waiting_in old) id)) is noted in
      subst (λ (w : Pending). Notes n unsaid id method (Some o) (record { waiting = w; lines = lines; refused = refused })) (sym stands.waiting)
      (subst (λ (x : Remark). Notes n unsaid id method (Some x) unsaid) (sym e) (hearing.is_twice refusal))

  -- nor does one too many, whose id is kept
  pub notes_too_many : (A : Type 0) (f : NoteFault) (o : Remark) (s' : Standing) → f ≡ TooManyPending
      → IsNoted (let r : Result A NoteFault = Err f in r) (note_refusal (waiting_in old) id) → Stands new last (waiting_in old) → o ≡ too_many id method
      → s' ≡ with_refused (of_id id) (record { waiting = waiting_in new; lines = lines; refused = refused })
      → Notes n unsaid id method (Some o) s'
  notes_too_many A f o s' is noted stands e after =
      let refusal = subst (λ (x : NoteFault). IsNoted (let r : Result A NoteFault = Err x in r) (note_refusal (waiting_in old) id)) is noted in
      let same : s' ≡ with_refused (of_id id) unsaid =
      after ∙ ap (λ (w : Pending). with_refused (of_id id) (record { waiting = w; lines = lines; refused = refused })) stands.waiting in
      subst (λ (z : Standing). Notes n unsaid id method (Some o) z) (sym same)
      (subst (λ (x : Remark). Notes n unsaid id method (Some x) (with_refused (of_id id) unsaid)) (sym e) (hearing.is_one_too_many refusal))

-- ---- answers to none that waits

module _ (s s' : Standing) (id : Option ℕ) (kind : List ℕ) (b : Bool) (was : b ≡ was_refused id s) (after : s' ≡ (if b then without_refused id s else s)) where
  pub stray_answered : b ≡ true → IsStray s id kind None s'
  stray_answered e =
      subst (λ (z : Standing). IsStray s id kind None z) (sym (after ∙ ap (λ (x : Bool). if x then without_refused id s else s) e))
      (to_refused (sym was ∙ e))

  pub stray_told : (o : Remark) → b ≡ false → o ≡ stray id kind → IsStray s id kind (Some o) s'
  stray_told o e is =
      subst (λ (z : Standing). IsStray s id kind (Some o) z) (sym (after ∙ ap (λ (x : Bool). if x then without_refused id s else s) e))
      (subst (λ (x : Remark). IsStray s id kind (Some x) s) (sym is) (to_none (sym was ∙ e)))

-- ---- judged texts

-- what is judged refused is refused by `check`
pub judged_refused : (line : List ℕ) (j : Judged) (id : Option JsUint) (code : ErrorCode) → IsJudged line j → j ≡ judged.Refused id code
    → (why : List ℕ) × Refuses Local line (Some why)
judged_refused line j id code h is =
    let v = verdict.Refused (option_map (λ n. n.value) id) code in
    let here = subst (IsJudged line) is h in
    (_, (verdict_shown v, (v, here, refl), refl))

-- and heard so
pub heard_refused : (n : ℕ) (s s' : Standing) (line : List ℕ) (j : Judged) (id : Option JsUint) (code : ErrorCode) (brief : List ℕ) (why : Trouble) → IsJudged line j
    → j ≡ judged.Refused id code → brief ≡ refused_words (option_map (λ n. n.value) id) code → IsTrouble Local line why
    → s' ≡ with_refused (kept_of n (option_map (λ n. n.value) id) why) s → Hears n s line Local (Some (fault (Some Local) None brief why)) s'
heard_refused n s s' line j id code brief why h is words trouble after =
    let here = subst (IsJudged line) is h in
    subst (λ (z : Standing). Hears n s line Local (Some (fault (Some Local) None brief why)) z) (sym after)
    (subst (λ (b : List ℕ). Hears n s line Local (Some (fault (Some Local) None b why)) (with_refused (kept_of n (option_map (λ n. n.value) id) why) s)) (sym words)
    (is_refused (option_map (λ n. n.value) id) code why here trouble))

-- what is judged accepted is heard as it is noted
pub judged_noted : {E : Type 0} {R : Type 0} (n : ℕ) (s s' : Standing) (line : List ℕ) (j : Judged) (id : JsUint) (method : Method) (view : R → Option Remark)
    (r : Result R E) → IsJudged line j → j ≡ judged.Accepted id method → IfOk r (λ found. Notes n s id.value method (view found) s')
    → IfOk r (λ found. Hears n s line Local (view found) s')
judged_noted n s s' line j id method view (Ok found) h is notes =
    let (t, judged, is_id, is_method) = subst (IsJudged line) is h in
    noted n s line t id.value method s' (view found) judged is_id is_method notes
judged_noted n s s' line j id method view (Err e) h is notes = tt

-- ---- taking

-- an event is no stray answer
no_stray_event : (w : Pending) (s : List ℕ) (t : Node) (m : Meaning) → Means w s m → m ≡ local.Stray → tree_of s ≡ Some t → Fits t (rule event) → ⊥
no_stray_event w s t m (local.is_stray_response u is fit none) e tree f =
    let same : u ≡ t = same_some (sym is ∙ tree) in
    let types : codes "success" ≡ codes "event" = sym (response_type u fit) ∙ ap kind_in same ∙ event_is_typed t f in
    true≢false (ap (bytes_eq (codes "success")) types)
no_stray_event w s t m (local.is_stray_error u is fit none) e tree f =
    let same : u ≡ t = same_some (sym is ∙ tree) in
    let types : codes "error" ≡ codes "event" = sym (error_type u fit) ∙ ap kind_in same ∙ event_is_typed t f in
    true≢false (ap (bytes_eq (codes "error")) types)
no_stray_event w s t m (local.is_not_json a) e tree f = absurd cc
no_stray_event w s t m (local.is_no_message u a b) e tree f = absurd cc
no_stray_event w s t m (local.is_event u ev a b c) e tree f = absurd cc
no_stray_event w s t m (local.is_refusal u mm cd a b c d) e tree f = absurd cc
no_stray_event w s t m (local.is_answer u mm a b c d) e tree f = absurd cc
no_stray_event w s t m (local.is_bad_result u mm a b c d) e tree f = absurd cc

-- a text that reads as a message means something of it
no_misfit : (w : Pending) (s : List ℕ) (t : Node) (m : Meaning) → Means w s m → tree_of s ≡ Some t → Fits t (rule message)
    → (m ≡ local.NotInProfile → ⊥) × (m ≡ local.NotJson → ⊥)
no_misfit w s t m (local.is_not_json a) tree f = (λ e. cc, λ e. absurd cc)
no_misfit w s t m (local.is_no_message u is misfit) tree f =
    let same : u ≡ t = same_some (sym is ∙ tree) in
    (λ e. misfit (subst (λ (x : Node). Fits x (rule message)) (sym same) f), λ e. cc)
no_misfit w s t m (local.is_event u ev a b c) tree f = (λ e. cc, λ e. cc)
no_misfit w s t m (local.is_stray_response u a b c) tree f = (λ e. cc, λ e. cc)
no_misfit w s t m (local.is_stray_error u a b c) tree f = (λ e. cc, λ e. cc)
no_misfit w s t m (local.is_refusal u mm cd a b c d) tree f = (λ e. cc, λ e. cc)
no_misfit w s t m (local.is_answer u mm a b c d) tree f = (λ e. cc, λ e. cc)
no_misfit w s t m (local.is_bad_result u mm a b c d) tree f = (λ e. cc, λ e. cc)

-- a stray answer is told as it is found
stray_as : (s : Standing) (t : Node) (id : Option ℕ) (kind : List ℕ) (s' : Standing) (o : Option Remark) → IsSender t id kind → (Fits t (rule event) → ⊥)
    → IsStray s id kind o s' → IsTold s t local.Stray o s'
stray_as s t id kind s' o (hearing.of_answer is_id is_kind) none (to_refused was) =
    subst (λ (x : Option ℕ). IsTold s t local.Stray None (without_refused x s)) (sym is_id) (of_refused (ap (λ x. was_refused x s) (sym is_id) ∙ was))
stray_as s t id kind s' o (hearing.of_answer is_id is_kind) none (to_none was) =
    subst (λ (x : Option ℕ). IsTold s t local.Stray (Some (stray x kind)) s) (sym is_id)
    (subst (λ (k : List ℕ). IsTold s t local.Stray (Some (stray (echoed_id t) k)) s) (sym is_kind) (of_stray (ap (λ x. was_refused x s) (sym is_id) ∙ was)))
stray_as s t id kind s' o (hearing.of_event f) none h = absurd (none f)

module _ (old new : LocalEnd) (lines lines' : List (ℕ × ℕ)) (refused : List Kept) (text : List ℕ) (t : Node) (m : Meaning) (last : ℕ) (means : IsMeaningOf (waiting_in old) t m)
    (stands : Stands new last (settled (waiting_in old) m)) (left : lines' ≡ lines_left (settled_id m) lines) (tree : tree_of text ≡ Some t) (r : outcome.Outcome) (told : IsOutcomeOf (waiting_in old) m r) where
  abbrev before : Standing
  before = record { waiting = waiting_in old; lines = lines; refused = refused }

  abbrev after : Standing
  after = record { waiting = waiting_in new; lines = lines'; refused = refused }

  takes : (o : Option Remark) → IsTold before t m o (behind m before) → Takes before t o after
  takes o h = (
    m,
    means,
    subst (λ (w : Pending). IsTold before t m o (record { waiting = w; lines = lines'; refused = refused })) (sym stands.waiting)
        (subst (λ (ls : List (ℕ × ℕ)). IsTold before t m o (record { waiting = settled (waiting_in old) m; lines = ls; refused = refused })) (sym left) h),
  )

  pub takes_fine : r ≡ out.Fine → Takes before t None after
  takes_fine e = takes None (fine m told)
    where
      fine : (n : Meaning) → IsOutcomeOf (waiting_in old) n r → IsTold before t n None (behind n before)
      fine (local.Answer id method result) h = of_answer id method result
      fine (local.Event ev params) h = of_event ev params
      fine (local.BadResult id) (n, method, is, same, waits) = absurd cc
      fine (local.Refusal id code) (n, method, is, same, waits) = absurd cc
      fine local.Stray h = absurd cc
      fine local.NotInProfile h = absurd cc
      fine local.NotJson h = absurd cc

  pub takes_failure : (id : JsUint) (method : Method) (code : ErrorCode) → r ≡ out.Refusal id method code → Takes before t (Some (failed id.value method code)) after
  takes_failure id method code e = takes (Some (failed id.value method code)) (failure m told)
    where
      failure : (n : Meaning) → IsOutcomeOf (waiting_in old) n r → IsTold before t n (Some (failed id.value method code)) (behind n before)
      failure (local.Refusal i c) (n, mm, is, same, waits) =
          let is_id : i ≡ id.value = cc in
          let is_method : mm ≡ method = cc in
          let is_code : c ≡ code = cc in
          subst (λ (x : Remark). IsTold before t (local.Refusal i c) (Some x) (behind (local.Refusal i c) before))
          (λ k. failed (is_id k) (is_method k) (is_code k)) (of_failure i mm c waits)
      failure (local.Answer i mm result) h = absurd cc
      failure (local.Event ev params) h = absurd cc
      failure (local.BadResult i) (n, mm, is, same, waits) = absurd cc
      failure local.Stray h = absurd cc
      failure local.NotInProfile h = absurd cc
      failure local.NotJson h = absurd cc

  bad_waits : (id : JsUint) (method : Method) → r ≡ out.BadResult id method → (n : Meaning) → IsOutcomeOf (waiting_in old) n r
      → (n ≡ local.BadResult id.value) × (method_of (waiting_in old) id.value ≡ Some method)
  bad_waits id method e (local.BadResult i) (n, mm, is, same, waits) =
      let is_id : i ≡ id.value = cc in
      let is_method : mm ≡ method = cc in
      (ap (λ x. local.BadResult x) is_id, ap (method_of (waiting_in old)) (sym is_id) ∙ waits ∙ ap (λ x. Some x) is_method)
  bad_waits id method e (local.Refusal i c) (n, mm, is, same, waits) = absurd cc
  bad_waits id method e (local.Answer i mm result) h = absurd cc
  bad_waits id method e (local.Event ev params) h = absurd cc
  bad_waits id method e local.Stray h = absurd cc
  bad_waits id method e local.NotInProfile h = absurd cc
  bad_waits id method e local.NotJson h = absurd cc

  pub bad_asked : (id : JsUint) (method : Method) → r ≡ out.BadResult id method → HasBadResult text method
  bad_asked id method e =
      let (is, waits) = bad_waits id method e m told in
      misfit_of (waiting_in old) text m id.value method (means text tree) is waits

  pub takes_bad_result : (id : JsUint) (method : Method) (o : Remark) → r ≡ out.BadResult id method → TellsBadResult text id.value method o
      → Takes before t (Some o) after
  takes_bad_result id method o e (u, why, is_tree, blames, is_told) =
      let (is, waits) = bad_waits id method e m told in
      let same : u ≡ t = same_some (sym is_tree ∙ tree) in
      let here = subst (λ (x : Node). HasResultMisfit (result_in x) id.value method why) same blames in
      let at_id : IsTold before t (local.BadResult id.value) (Some o) (behind (local.BadResult id.value) before) =
      subst (λ (x : Remark). IsTold before t (local.BadResult id.value) (Some x) (behind (local.BadResult id.value) before)) (sym is_told)
      (of_result id.value method why waits here) in
      takes (Some o) (subst (λ (n : Meaning). IsTold before t n (Some o) (behind n before)) (sym is) at_id)

  pub no_message_taken : Fits t (rule message) → r ≡ out.NoMessage → ⊥
  no_message_taken fits e = none m told (no_misfit (waiting_in old) text t m (means text tree) tree fits)
    where
      none : (n : Meaning) → IsOutcomeOf (waiting_in old) n r → (n ≡ local.NotInProfile → ⊥) × (n ≡ local.NotJson → ⊥) → ⊥
      none (local.Answer i mm result) h never = cc
      none (local.Event ev params) h never = cc
      none (local.BadResult i) (n, mm, is, same, waits) never = cc
      none (local.Refusal i c) (n, mm, is, same, waits) never = cc
      none local.Stray h never = cc
      none local.NotInProfile h never = never.0 refl
      none local.NotJson h never = never.1 refl

  stray_meant : (n : Meaning) → IsOutcomeOf (waiting_in old) n r → r ≡ out.Stray → n ≡ local.Stray
  stray_meant (local.Answer i mm result) h e = absurd cc
  stray_meant (local.Event ev params) h e = absurd cc
  stray_meant (local.BadResult i) (n, mm, is, same, waits) e = absurd cc
  stray_meant (local.Refusal i c) (n, mm, is, same, waits) e = absurd cc
  stray_meant local.Stray h e = refl
  stray_meant local.NotInProfile h e = absurd cc
  stray_meant local.NotJson h e = absurd cc

  pub takes_stray : {E R : Type 0} (view : R → Option Remark) (s' : Standing) (id : Option ℕ) (kind : List ℕ) (found : Result R E) → r ≡ out.Stray
      → IsSender t id kind → IfOk found (λ o. IsStray after id kind (view o) s') → IfOk found (λ o. Takes before t (view o) s')
  takes_stray view s' id kind (Err x) e from h = tt
  takes_stray view s' id kind (Ok o) e from h =
      let is = stray_meant m told e in
      let none = no_stray_event (waiting_in old) text t m (means text tree) is tree in
      let same : waiting_in new ≡ waiting_in old = stands.waiting ∙ ap (settled (waiting_in old)) is in
      let lines_same : lines' ≡ lines = left ∙ ap (λ (x : Meaning). lines_left (settled_id x) lines) is in
      let here = subst (λ (w : Pending). IsStray (record { waiting = w; lines = lines; refused = refused }) id kind (view o) s') same
      (subst (λ (ls : List (ℕ × ℕ)). IsStray (record { waiting = waiting_in new; lines = ls; refused = refused }) id kind (view o) s') lines_same h) in
      (local.Stray, subst (IsMeaningOf (waiting_in old) t) is means, stray_as before t id kind s' (view o) from none here)

-- ---- lines

-- a text is heard as one of its end
pub heard_text : {E R : Type 0} (n : ℕ) (s s' : Standing) (line text : List ℕ) (side : Side) (view : R → Option Remark) (r : Result R E)
    → begins_with_mark n line ≡ false → line ≡ mark_of side ++ text → IfOk r (λ found. Hears n s text side (view found) s')
    → IfOk r (λ found. IsLine line → HearsLine n s line (view found) s')
heard_text n s s' line text side view (Ok found) none e h = λ is. is_text side text (view found) s' is none e h
heard_text n s s' line text side view (Err x) none e h = tt

pub heard_mark : (n : ℕ) (s : Standing) (line : List ℕ) (o : Remark) → begins_with_mark n line ≡ true → o ≡ bad_line ByteOrderMark → IsLine line
    → HearsLine n s line (Some o) s
heard_mark n s line o marked e is = subst (λ (x : Remark). HearsLine n s line (Some x) s) (sym e) (is_marked is marked)

-- one with no mark of an end is no text
pub heard_no_text : (n : ℕ) (s : Standing) (line : List ℕ) (o : Remark) → begins_with_mark n line ≡ false
    → ((text : List ℕ) → line ≡ mark_of Local ++ text → ⊥) → ((text : List ℕ) → line ≡ mark_of Remote ++ text → ⊥) → o ≡ bad_line NoDirection
    → IsLine line → HearsLine n s line (Some o) s
heard_no_text n s line o unmarked local_none remote_none e is =
    subst (λ (x : Remark). HearsLine n s line (Some x) s) (sym e) (is_no_text is unmarked none)
  where
    none : (side : Side) (text : List ℕ) → line ≡ mark_of side ++ text → ⊥
    none Local = local_none
    none Remote = remote_none

pub heard_long : (n : ℕ) (s : Standing) (l : Line) (bytes : List ℕ) (o : Remark) → l ≡ line.TooLong → IsOf l bytes → o ≡ bad_line TooLong
    → HearsLine n s bytes (Some o) s
heard_long n s l bytes o is at e =
    subst (λ (x : Remark). HearsLine n s bytes (Some x) s) (sym e) (is_too_long (subst (λ (x : Line). IsOf x bytes) is at))

-- ---- texts that are no message

-- the bytes that are no UTF-8, no JSON, or no message
pub fault_is : (f g : MessageFault) (s : List ℕ) → f ≡ g → IsCause f s → IsCause g s
fault_is f g s is h = subst (λ (x : MessageFault). IsCause x s) is h

pub no_json_line : (line text : List ℕ) (f : MessageFault) → (text ≡ line) × IsUtf8 line → f ≡ NotJson → IsCause f text
    → Refuses Remote line (Some (codes "not json"))
no_json_line line text f (same, is) e h = no_json_refused line is (subst (λ (l : List ℕ). tree_of_text None l ≡ None) same (fault_is f NotJson text e h))

pub no_fit_line : (line text : List ℕ) (f : MessageFault) → (text ≡ line) × IsUtf8 line → f ≡ NoFit → IsCause f text
    → Refuses Remote line (Some (codes "no fit"))
no_fit_line line text f (same, is) e h =
    no_fit_refused line is
    (subst (λ (l : List ℕ). (t : Node) × (tree_of_text None l ≡ Some t) × (Fits t (rule message) → ⊥)) same (fault_is f NoFit text e h))

-- a message is heard as it is taken
pub heard_message : {E R : Type 0} (n : ℕ) (s s' : Standing) (line text : List ℕ) (t : Node) (view : R → Option Remark) (r : Result R E)
    → (text ≡ line) × IsUtf8 line → tree_of text ≡ Some t → IfOk r (λ found. Takes s t (view found) s')
    → IfOk r (λ found. Hears n s line Remote (view found) s')
heard_message n s s' line text t view (Ok found) is tree h = taken n s s' line text t (view found) is tree h
heard_message n s s' line text t view (Err x) is tree h = tt

-- one that is none is heard as it is told, and what it answers has its answer
pub heard_none : (n : ℕ) (s s' : Standing) (line brief : List ℕ) (why : Trouble) (id answers : Option ℕ) (o : Remark) → Refuses Remote line (Some brief)
    → IsTrouble Remote line why → IsIdIn line why id → answers ≡ answered id s → s' ≡ with_answer id s → o ≡ no_message answers brief why
    → Hears n s line Remote (Some o) s'
heard_none n s s' line brief why id answers o refuses trouble is told after same =
    subst (λ (z : Standing). Hears n s line Remote (Some o) z) (sym after)
    (subst (λ (x : Remark). Hears n s line Remote (Some x) (with_answer id s)) (sym same)
    (subst (λ (a : Option ℕ). Hears n s line Remote (Some (no_message a brief why)) (with_answer id s)) (sym told)
    (is_no_message brief why id refuses trouble is)))
