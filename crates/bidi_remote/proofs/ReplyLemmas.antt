-- Why a command that does something gets one reply, with a result of its method.
use Rattle.std.proofs.Common.{◌≡◌, ◌∙◌, ℕ, false, true≢false, unwrap_or, List, ◌++◌, map, Option, Some, None}
use Rattle.std.proofs.Common.{Result, Ok, Err, IfOk, Vec, Global, sym, ap, subst}
use Rattle.std.specs.Prelude.{IfSome, OnOk, option_map, is_some}
use Rattle.std.specs.Option.{option_zip}
use Rattle.bidi_tree.specs.Node.{Node}
use Rattle.bidi_shape.specs.Term.{rule}
use Rattle.bidi_shape.specs.Fits.{Fits}
use Rattle.bidi_methods.specs.declared.method.Method.{Method}
use Rattle.bidi_browser.specs.declared.command_result.CommandResult.{CommandResult}
use Rattle.bidi_browser.specs.declared.command_result.CommandResult.TheVariants.{Data, Text}
use Rattle.bidi_methods.specs.contracts.result_data.ResultDataPayloadMethod.TheImpl as results
use Rattle.bidi_messages.specs.Command.{method_in}
use Rattle.bidi_methods.specs.Method.{method_text, result_of, method_words}
use Rattle.bidi_messages.specs.Verdict.{Verdict, Accepted, Refused}
use Rattle.bidi_params.specs.declared.error_code.ErrorCode.{ErrorCode}
use Rattle.bidi_shape.specs.WordLaws.{value_named}
use Rattle.bidi_contexts.specs.Occurrences.{Occurrence}
use Rattle.bidi_browser.specs.Occurs.{Item, Happens}
use Rattle.bidi_browser.specs.Plans.{IsWellResult}
use Rattle.bidi_contexts.specs.View.{seen}
use Rattle.bidi_browser.specs.View.{result_tree, result_method}
use Rattle.bidi_sessions.specs.declared.step.Sent as declared_sent
use Rattle.bidi_remote.specs.declared.turn.Asker.{Asker}
use Rattle.bidi_remote.specs.declared.turn.Reply.{Reply}
use Rattle.bidi_remote.specs.declared.turn.Turn.{Turn}
use Rattle.bidi_handles.specs.declared.refusal.Refusal as browser
use Rattle.bidi_remote.specs.Machine.Commands.{Command, command_of, id_of_command}
use Rattle.bidi_remote.specs.Machine.Connections.{Attachment, SpeaksFor, is_shut, attachment_of}
use Rattle.bidi_remote.specs.Machine.History.{Input, Heard, Deed}
use Rattle.bidi_remote.specs.Machine.Outcome.{NotTaken, deeds, turn, replied, outcome}
use Rattle.bidi_remote.specs.Replies.{ReadsAs, HasOneReply, IsAnsweredOnce}
use Rattle.bidi_remote.specs.Machine.Sent.{action_in, items}
use Rattle.bidi_remote.specs.State.Asked.{Asks}
use Rattle.bidi_remote.specs.State.Turns.{Decides, IsWellTold, HasResultOf, deed_of, asker_in, reply_in}
use Rattle.bidi_remote.proofs.TurnLemmas.{heard-open, asked-is}

-- ---- the method of a result

abbrev kind : CommandResult → Method
kind r = result_method r

-- a result fits the rule of its method
result-fits : (r : CommandResult) → IsWellResult r → Fits (result_tree r) (rule (result_of (kind r)))
result-fits (Data r) well = results.ghosts.payload.fits r well.0
result-fits (Text r) well = well.3

-- one that the browser planned
pub planned-of : (method : Method) (turn : Turn) (asker : Asker) (o : Option CommandResult)
    → turn.telling.reply ≡ option_map (λ r. record { to = r.0; outcome = r.1 }) (option_zip (Some asker) o)
    → IfSome o (λ r. kind r ≡ method) → HasResultOf method (Ok turn)
planned-of method turn asker None is same = subst (λ o. IfSome o (λ x. kind x.outcome ≡ method)) (sym is) tt
planned-of method turn asker (Some r) is same = subst (λ o. IfSome o (λ x. kind x.outcome ≡ method)) (sym is) same

-- what is decided for a session, of a command that is known by another name
pub decides-as : (r : Result Turn browser.Refusal) (past : List Deed) (asker : Asker) (c s : ℕ) (asked d : Command) → asked ≡ d
    → Decides r past asker d (outcome past c (SpeaksFor s) d) → Decides r past asker asked (outcome past c (SpeaksFor s) asked)
decides-as r past asker c s asked d is decides = subst (λ x. Decides r past asker x (outcome past c (SpeaksFor s) x)) (sym is) decides

-- the method that is asked for
pub asked-of : {D : Type 0} (method : D → Method) (asked d : D) (r : Result Turn browser.Refusal)
    → asked ≡ d → HasResultOf (method d) r → HasResultOf (method asked) r
asked-of method asked d r is has = subst (λ a. HasResultOf (method a) r) (sym is) has

-- what holds anyway holds after an Ok
on-ok : {S E : Type 0} (q : Result S E) {P : Type 0} → P → OnOk q P
on-ok (Ok x) p = p
on-ok (Err e) p = tt

-- ---- one reply

-- one text names one method
pub one-method : (m n : Method) → method_text m ≡ method_text n → m ≡ n
one-method m n e =
    let named : Some m ≡ Some n = sym (method_words.names_it m) ∙ (ap (λ s. value_of s) e ∙ method_words.names_it n) in
    cc named
  where
    value_of : List ℕ → Option Method
    value_of s = value_named method_words.first method_words.rest s

-- of one asker the id is one
same-id : (x y : ℕ × ℕ) → Some x ≡ Some y → x.1 ≡ y.1
same-id x y e = ap (λ o. (unwrap_or o x).1) e

reply-in : (c id : ℕ) (method : Method) (before after : List Occurrence) (o : Option Reply) (all : List Item)
    → IfSome o (λ r. IsWellResult r.outcome) → asker_in o ≡ Some (c, id) → IfSome o (λ r. kind r.outcome ≡ method)
    → IfSome o (λ r. ReadsAs r.to.id.value (result_tree r.outcome)) → map Happens before ++ (reply_in o ++ map Happens after) ≡ all → HasOneReply id method all
reply-in c id method before after None all well asker same reads is = absurd (true≢false (sym (ap is_some asker)))
reply-in c id method before after (Some r) all well asker same reads is = (
  before,
  result_tree r.outcome,
  after,
  sym is,
  subst (λ m. Fits (result_tree r.outcome) (rule (result_of m))) same (result-fits r.outcome well),
  subst (λ n. ReadsAs n (result_tree r.outcome)) (same-id (r.to.conn.value, r.to.id.value) (c, id) asker) reads,
)

module _ {E : Type 0} (q : Result (Vec declared_sent.Sent Global) E) (h : List Input) (asker : Asker) (tree : Node) (s : Attachment) (x : Command)
    (stands : attachment_of (deeds h) asker.conn.value ≡ s) (opened : is_shut s ≡ false) (asks : Asks tree asker.id.value x) (method : Method)
    (named : method_in tree ≡ method_text method) where
  abbrev c : ℕ
  c = asker.conn.value

  turned : (answer : Result Deed ErrorCode)
      → outcome (deeds h) c s x ≡ answer → turn (deeds h) (Heard c (Accepted tree)) ≡ replied c (id_of_command tree) answer
  turned answer is =
      heard-open (deeds h) c (Accepted tree) (ap is_shut stands ∙ opened)
      ∙ (asked-is (deeds h) c tree s x stands asks.what ∙ ap (replied c (id_of_command tree)) is)

  -- a code refused the command
  pub code_answered : (code : ErrorCode) → outcome (deeds h) c s x ≡ Err code → OnOk q (IsAnsweredOnce (deeds h) (Heard c (Accepted tree)))
  code_answered code is =
      on-ok q (λ m n. subst (λ r. IfOk r (λ d. HasOneReply (id_of_command tree) m (items (deeds h) (action_in (command_of tree)) d)))
      (sym (turned (Err code) is)) tt)

  -- a turn was taken
  pub turn_answered : (decided : Turn)
      → Decides (Ok decided) (deeds h) asker x (outcome (deeds h) c s x) → IsWellTold decided.telling → HasResultOf method (Ok decided)
      → IfSome decided.telling.reply (λ r. OnOk q (ReadsAs r.to.id.value (result_tree r.outcome))) → OnOk q (IsAnsweredOnce (deeds h) (Heard c (Accepted tree)))
  turn_answered decided is well has reads = of q reads
    where
      d : Deed
      d = deed_of decided.change is.0

      of : (q : Result (Vec declared_sent.Sent Global) E)
          → IfSome decided.telling.reply (λ r. OnOk q (ReadsAs r.to.id.value (result_tree r.outcome)))
          → OnOk q (IsAnsweredOnce (deeds h) (Heard c (Accepted tree)))
      of (Err e) reads = tt
      of (Ok v) reads = λ m n.
          subst (λ r. IfOk r (λ d. HasOneReply (id_of_command tree) m (items (deeds h) (action_in (command_of tree)) d))) (sym (turned (Ok d) is.1))
          (subst (λ k. HasOneReply (id_of_command tree) k (items (deeds h) (action_in (command_of tree)) d)) (one-method method m (sym named ∙ n))
          (reply-in c (id_of_command tree) method (seen decided.telling.before.items) (seen decided.telling.after.items)
          decided.telling.reply _ well.reply (is.4 ∙ ap (λ k. Some (c, k)) (sym asks.same_id)) has reads
          (is.3.items ∙ ap (λ o. items (deeds h) (action_in o) d) (sym asks.what))))

-- a text that does nothing has no reply of that kind
pub not_answered : (past : List Deed) (c : ℕ) (v : Verdict) (refusal : NotTaken) → turn past (Heard c v) ≡ Err refusal → IsAnsweredOnce past (Heard c v)
not_answered past c (Accepted t) refusal is =
    λ m n. subst (λ r. IfOk r (λ d. HasOneReply (id_of_command t) m (items past (action_in (command_of t)) d))) (sym is) tt
not_answered past c (Refused id code) refusal is = tt

-- nor has a step of a page
pub page_answered : {S E : Type 0} (q : Result S E) (past : List Deed) (i j : Input) → i ≡ j → IsAnsweredOnce past j → OnOk q (IsAnsweredOnce past i)
page_answered (Err e) past i j is once = tt
page_answered (Ok x) past i j is once = subst (IsAnsweredOnce past) (sym is) once
