-- A step that was taken: what was sent, and the tables after it.
use Rattle.std.proofs.Common.{◌≡◌, ◌∙◌, ℕ, Bool, true, false, List, [], ◌∷◌, map, refl, sym, ap, subst, Result, Ok, Err, Vec, Global, IfOk, Some, rules}
use Rattle.std.specs.Prelude.{IsTrue, OnErr}
use Rattle.bidi_tree.specs.Node.{Node}
use Rattle.bidi_contexts.specs.Acts.{Act}
use Rattle.bidi_contexts.specs.Actions.{Action}
use Rattle.bidi_messages.specs.Message.{error_text}
use Rattle.bidi_messages.specs.Verdict.{Verdict, IsVerdict, Accepted, Refused}
use Rattle.bidi_params.specs.declared.error_code.ErrorCode.{ErrorCode}
use Rattle.bidi_sessions.specs.declared.step.Sent as declared_sent
use Rattle.bidi_remote.specs.declared.state.State.{State}
use Rattle.bidi_remote.specs.declared.turn.Asker.{Asker}
use Rattle.bidi_remote.specs.declared.turn.Turn.{Turn}
use Rattle.bidi_sessions.specs.Step.{Step, PageStep, Text, Page}
use Rattle.bidi_remote.specs.Machine.History.{Input, Open, Heard, OfPage, IsTakenAs, IsHeardAs, Deed, acts}
use Rattle.bidi_remote.specs.Machine.Commands.{Command, id_of_command}
use Rattle.bidi_remote.specs.Machine.Connections.{Attachment, is_shut, is_open, attachment_of}
use Rattle.bidi_remote.specs.Machine.Outcome.{NotTaken, Error, deeds, turn, with_turn, replied, outcome}
use Rattle.bidi_remote.specs.Machine.Sent as sent
use Rattle.bidi_remote.specs.Machine.Sent.{Sent, action_in, items, told}
use Rattle.bidi_remote.specs.Machine.Messages.{ReadsBack, AllReadBack}
use Rattle.bidi_remote.specs.State.Stands.{AgreeWith, IsShort, Takes}
use Rattle.bidi_remote.specs.State.Asked.{Asks}
use Rattle.bidi_active.specs.Written.{written_in}
use Rattle.bidi_remote.specs.State.EventTexts.{AreMessages}
use Rattle.bidi_remote.specs.State.Turns.{Decides, IsMade, deed_of, asker_in, items_in, sent_for}
use Rattle.bidi_sessions.specs.View.{sent_of}
use Rattle.bidi_remote.proofs.ChangeLemmas.{opens-open}
use Rattle.bidi_remote.proofs.TurnLemmas.{heard-open, asked-is, told-for}

pub takes : (t : State) (h : List Input) (i : Input) (r : Result Deed NotTaken) (all : List Sent)
    → turn (deeds h) i ≡ r → all ≡ told (deeds h) i r → AllReadBack all → AgreeWith t (with_turn (deeds h) r) → Takes t all h i
takes t h i r all is sends reads agree = record {
  sends = sends ∙ ap (told (deeds h) i) (sym is);
  reads_back = reads;
  agree = subst (λ x. AgreeWith t (with_turn (deeds h) x)) (sym is) agree;
}

-- what was sent for a turn, with the tables after it
pub all_taken : {E : Type 0} (t : State) (h : List Input) (i : Input) (d : Deed) (sends : List Sent) (q : Result (Vec declared_sent.Sent Global) E)
    → IfOk q (λ all. (map sent_of all.items ≡ sends) × AllReadBack (map sent_of all.items) × AgreeWith t (d ∷ deeds h))
    → turn (deeds h) i ≡ Ok d → sends ≡ told (deeds h) i (Ok d)
    → IfOk q (λ all. Takes t (map sent_of all.items) h i)
all_taken t h i d sends (Err e) all is same = tt
all_taken t h i d sends (Ok v) all is same = takes t h i (Ok d) (map sent_of v.items) is (all.0 ∙ same) all.1 all.2

-- one thing alone is sent, which is no text
pub only_takes : {E : Type 0} (r : Result (Vec declared_sent.Sent Global) E) (x : declared_sent.Sent) (t : State) (h : List Input)
    (i : Input) (turned : Result Deed NotTaken) → IfOk r (λ all. all.items ≡ x ∷ [])
    → turn (deeds h) i ≡ turned → sent_of x ∷ [] ≡ told (deeds h) i turned
    → ReadsBack (sent_of x) → AgreeWith t (with_turn (deeds h) turned) → IfOk r (λ all. Takes t (map sent_of all.items) h i)
only_takes (Err e) x t h i turned only is sends reads agree = tt
only_takes (Ok all) x t h i turned only is sends reads agree =
    subst (λ items. Takes t (map sent_of items) h i) (sym only) (takes t h i turned (sent_of x ∷ []) is sends (reads, tt) agree)

-- one thing that is sent reads back
pub one_reads : (items : List declared_sent.Sent) (x : declared_sent.Sent) → items ≡ x ∷ [] → ReadsBack (sent_of x) → AllReadBack (map sent_of items)
one_reads items x only reads = subst (λ items. AllReadBack (map sent_of items)) (sym only) (reads, tt)

pub only_reads : {E : Type 0} (r : Result (Vec declared_sent.Sent Global) E) (x : declared_sent.Sent)
    → IfOk r (λ all. all.items ≡ x ∷ []) → ReadsBack (sent_of x) → IfOk r (λ all. AllReadBack (map sent_of all.items))
only_reads (Err e) x only reads = tt
only_reads (Ok all) x only reads = one_reads all.items x only reads

-- nothing is sent
pub nothing : (items : List declared_sent.Sent) → items ≡ [] → AllReadBack (map sent_of items)
nothing items none = subst (λ all. AllReadBack (map sent_of all)) (sym none) tt

-- a text is refused
pub refused_takes : {E : Type 0} (r : Result (Vec declared_sent.Sent Global) E) (t : State) (h : List Input) (i : Input)
    (turned : Result Deed NotTaken) (sends : List Sent) → IfOk r (λ all. map sent_of all.items ≡ sends)
    → IfOk r (λ all. AllReadBack (map sent_of all.items)) → turn (deeds h) i ≡ turned
    → sends ≡ told (deeds h) i turned → AgreeWith t (with_turn (deeds h) turned) → IfOk r (λ all. Takes t (map sent_of all.items) h i)
refused_takes (Err e) t h i turned sends text reads is same agree = tt
refused_takes (Ok all) t h i turned sends text reads is same agree = takes t h i turned (map sent_of all.items) is (text ∙ same) reads agree

-- a refusal is told the same of every verdict
pub told-refused : (past : List Deed) (c : ℕ) (v : Verdict) (refusal : NotTaken) → told past (Heard c v) (Err refusal) ≡ sent.refused refusal
told-refused past c (Accepted t) refusal = refl
told-refused past c (Refused id code) refusal = refl

module _ {E : Type 0} (r : Result (Vec declared_sent.Sent Global) E) (t : State) (h : List Input) (asker : Asker) (tree : Node) (s : Attachment) (x : Command)
    (stands : attachment_of (deeds h) asker.conn.value ≡ s) (opened : is_shut s ≡ false) (asks : Asks tree asker.id.value x) where
  abbrev pub c : ℕ
  c = asker.conn.value

  -- what the command comes to is the turn of its text
  turned : (answer : Result Deed ErrorCode)
      → outcome (deeds h) c s x ≡ answer → turn (deeds h) (Heard c (Accepted tree)) ≡ replied c (id_of_command tree) answer
  turned answer is =
      heard-open (deeds h) c (Accepted tree) (ap is_shut stands ∙ opened)
      ∙ (asked-is (deeds h) c tree s x stands asks.what ∙ ap (replied c (id_of_command tree)) is)

  -- a code refused the command
  pub code_takes : (code : ErrorCode) → outcome (deeds h) c s x ≡ Err code
      → AgreeWith t (deeds h) → IfOk r (λ all. map sent_of all.items ≡ sent.Text c (error_text (Some asker.id.value) code) ∷ [])
      → IfOk r (λ all. AllReadBack (map sent_of all.items)) → IfOk r (λ all. Takes t (map sent_of all.items) h (Heard c (Accepted tree)))
  code_takes code is agree text reads =
      refused_takes r t h (Heard c (Accepted tree)) (Err (Error c (Some (id_of_command tree)) code))
      (sent.Text c (error_text (Some asker.id.value) code) ∷ []) text reads (turned (Err code) is)
      (ap (λ n. sent.Text c (error_text (Some n) code) ∷ []) (sym asks.same_id)) agree

  -- a turn was taken
  pub turn_takes : (decided : Turn) → Decides (Ok decided) (deeds h) asker x (outcome (deeds h) c s x)
      → ((i : Input) (act : Act) → turn (deeds h) i ≡ Ok (deed_of decided.change act)
      → IsMade decided.change (acts (deeds h)) act → AreMessages (written_in decided.telling.announced.items)
      → IfOk r (λ all. (map sent_of all.items ≡ sent_for (deeds h) (asker_in decided.telling.reply) (deed_of decided.change act)
      (written_in decided.telling.announced.items) (items_in decided.telling))
      × AllReadBack (map sent_of all.items) × AgreeWith t (deed_of decided.change act ∷ deeds h)))
      → IfOk r (λ all. Takes t (map sent_of all.items) h (Heard c (Accepted tree)))
  turn_takes decided is taken = all_taken t h i d _ r (taken i is.0 turn_is is.2 is.3.messages) turn_is sends
    where
      past : List Deed
      past = deeds h

      d : Deed
      d = deed_of decided.change is.0

      i : Input
      i = Heard c (Accepted tree)

      turn_is : turn past i ≡ Ok d
      turn_is = turned (Ok d) is.1

      sends : sent_for past (asker_in decided.telling.reply) d (written_in decided.telling.announced.items) (items_in decided.telling) ≡ told past i (Ok d)
      sends =
          ap (λ who. sent_for past who d (written_in decided.telling.announced.items) (items_in decided.telling))
          (is.4 ∙ ap (λ n. Some (c, n)) (sym asks.same_id))
          ∙ told-for past c tree d (written_in decided.telling.announced.items) (items_in decided.telling) is.3.announced
          (is.3.items ∙ ap (λ o. items past (action_in o) d) (sym asks.what))

-- what holds anyway holds after an error
pub anyway : {S E : Type 0} (r : Result S E) {P : Type 0} → P → OnErr r P
anyway (Err e) p = p
anyway (Ok x) p = tt

-- what is opened was shut
pub opened-shut : (past : List Deed) (c : ℕ) (resource : List ℕ) (d : Deed) (b : Bool)
    → is_shut (attachment_of past c) ≡ b → turn past (Open c resource) ≡ Ok d → is_shut (attachment_of past c) ≡ true
opened-shut past c resource d true e is = e
opened-shut past c resource d false e is = absurd (apart (opens-open past c resource e ∙ is))
  where
    apart : {A B : Type 0} {x : A} {y : B} → (let l : Result B A = Err x in let r : Result B A = Ok y in l ≡ r) → ⊥
    apart e = cc

-- what is shut is not open
pub closed_open : (past : List Deed) (c : ℕ) → is_shut (attachment_of past c) ≡ true → IsTrue (is_open past c) → ⊥
closed_open past c shut is = let both : is_open past c ≡ false = rw shut refl in search (rules, both)

-- ---- what was heard

-- whatever history the tables stood for, this was sent at the input, and these are the tables after it
abbrev pub TakesIt : State → State → List Sent → Input → Type 0
TakesIt old after all i = (h : List Input) → IsShort h → AgreeWith old (deeds h) → Takes after all h i

-- a text was judged
pub text_judged : {E : Type 0} (r : Result (Vec declared_sent.Sent Global) E) (text : List ℕ) (old after : State) (c : ℕ) (v : Verdict) → IsVerdict text v
    → ((h : List Input) → IsShort h → AgreeWith old (deeds h) → IfOk r (λ all. Takes after (map sent_of all.items) h (Heard c v)))
    → IfOk r (λ all. (w : Verdict) × IsVerdict text w × TakesIt old after (map sent_of all.items) (Heard c w))
text_judged (Err e) text old after c v is f = tt
text_judged (Ok all) text old after c v is f = (v, is, f)

-- a step is heard as an input
pub step_heard : {E : Type 0} (r : Result (Vec declared_sent.Sent Global) E) (x : Step) (old after : State) (i : Input) → IsHeardAs x i
    → ((h : List Input) → AgreeWith old (deeds h) → IfOk r (λ all. Takes after (map sent_of all.items) h i))
    → IfOk r (λ all. (j : Input) × IsHeardAs x j × TakesIt old after (map sent_of all.items) j)
step_heard (Err e) x old after i is f = tt
step_heard (Ok all) x old after i is f = (i, is, λ h short. f h)

-- a step of a page is taken as an action
pub page_taken : {E : Type 0} (r : Result (Vec declared_sent.Sent Global) E) (page : PageStep) (old after : State) (action : Action) → IsTakenAs page action
    → ((h : List Input) → IsShort h → AgreeWith old (deeds h) → IfOk r (λ all. Takes after (map sent_of all.items) h (OfPage action)))
    → IfOk r (λ all. (a : Action) × IsTakenAs page a × TakesIt old after (map sent_of all.items) (OfPage a))
page_taken (Err e) page old after action is f = tt
page_taken (Ok all) page old after action is f = (action, is, f)

-- and heard as what it is taken as
pub page_heard : {E : Type 0} (r : Result (Vec declared_sent.Sent Global) E) (x : Step) (page : PageStep) (old after : State) → x ≡ Page page
    → IfOk r (λ all. (a : Action) × IsTakenAs page a × TakesIt old after (map sent_of all.items) (OfPage a))
    → IfOk r (λ all. (j : Input) × IsHeardAs x j × TakesIt old after (map sent_of all.items) j)
page_heard (Err e) x page old after is f = tt
page_heard (Ok all) x page old after is (a, taken, f) = (OfPage a, subst (λ y. IsHeardAs y (OfPage a)) (sym is) (a, taken, refl), f)

-- a text is heard as its verdict
pub text_heard : {E : Type 0} (r : Result (Vec declared_sent.Sent Global) E) (x : Step) (c : ℕ) (text : List ℕ) (old after : State) → x ≡ Text c text
    → IfOk r (λ all. (w : Verdict) × IsVerdict text w × TakesIt old after (map sent_of all.items) (Heard c w))
    → IfOk r (λ all. (j : Input) × IsHeardAs x j × TakesIt old after (map sent_of all.items) j)
text_heard (Err e) x c text old after is f = tt
text_heard (Ok all) x c text old after is (v, judged, f) = (Heard c v, subst (λ y. IsHeardAs y (Heard c v)) (sym is) (v, judged, refl), f)
