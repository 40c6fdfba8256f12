-- What becomes of a message, by what was found for it.
use Rattle.std.proofs.Common.{◌≡◌, ◌∙◌, ◌≤◌, ℕ, Bool, true, false, true≢false, ◌&&◌, ◌⊎◌, inl, inr, List, [], ◌∷◌, length, map, Option, Some, None, Result, Ok, Err, Vec, Global, refl, sym, ap, subst, arith}
use Rattle.std.specs.Prelude.{◌==◌, find, if◌then◌else◌, IfOk, OnOk, OnErr, IsErrOf, ◌↔◌, unwrap_or}
use Rattle.std.specs.List.{position}
use Rattle.std.proofs.lemmas.Bool.Decides.{nat_tests}
use Rattle.std.proofs.Math.Nat.{lt_of_not-le}
use Rattle.bidi_rows.specs.Command.{Command, command_of}
use Rattle.bidi_rows.specs.Rows.{Row, Answer, Action, Answers, Holds, matches}
use Rattle.bidi_remote.specs.Machine.History.{Input, Deed, IsHeardAs}
use Rattle.bidi_remote.specs.Machine.Messages.{AllReadBack}
use Rattle.bidi_remote.specs.Machine.Connections.{is_open}
use Rattle.bidi_remote.specs.Machine.Outcome.{deeds}
use Rattle.bidi_remote.specs.Machine.Sent.{Sent, Text, out}
use Rattle.bidi_remote.specs.State.Stands.{StandsFor, IsShort}
use Rattle.bidi_remote.specs.declared.remote_end.RemoteFault.{RemoteFault}
use Rattle.bidi_remote.specs.declared.remote_end.RemoteFault.TheVariants.{WornOut}
use Rattle.bidi_sessions.specs.Limits.{most_steps}
use Rattle.bidi_sessions.specs.Step as steps
use Rattle.bidi_sessions.specs.Step.{Step}
use Rattle.bidi_sessions.specs.View.{sent_of}
use Rattle.bidi_params.specs.declared.error_code.ErrorCode.TheVariants.{UnknownError}
use Rattle.bidi_messages.specs.Message.{error_text}
use Rattle.bidi_remote.specs.declared.remote_end.RemoteEnd.{RemoteEnd}
use Rattle.bidi_scripted.specs.declared.scripted_end.Taken.{Taken}
use Rattle.bidi_scripted.specs.declared.scripted_end.Taken.TheVariants as code
use Rattle.bidi_scripted.specs.Taken.{IsOfTest, handed}
use Rattle.bidi_scripted.specs.Sending.{answer_sent}
use Rattle.bidi_scripted.specs.Script.{Script, no_script, is_plain, has_room_for_command, with_use, with_held}
use Rattle.bidi_scripted.specs.Fate.{Fate, HandedOn, Answered, Held, Unheld, AsksNames, asks_names, is_json, by_action, by_row, by_command, fate, after_step}
use Rattle.bidi_scripted.specs.Becomes.{Becomes, IsHandedOn, IsHeard, IsTaken, IsFound, found_names, sent_by}
use Rattle.bidi_rows.specs.declared.row.Row as declared_row
use Rattle.bidi_sessions.specs.declared.step.Sent as declared_sent
use Rattle.bidi_rows.specs.View.{row_of}
use Rattle.bidi_sessions.proofs.ListLemmas.{some-same}
use Rattle.bidi_scripted.proofs.UseLemmas.{is_for, found-none}

-- ---- a message that is handed on

no_names : (known : List (List ℕ)) (method : List ℕ) → (length known == 0) ≡ true → asks_names known method ≡ false
no_names known method none = rw none refl

plain_row : (script : Script) (c : ℕ) (text : List ℕ) (command : Command) → asks_names script.known command.method ≡ false
    → by_row script c text command None ≡ HandedOn
plain_row script c text command asks = rw asks refl

no_row : (p : Row → Bool) (rows : List Row) → (length rows == 0) ≡ true → find p rows ≡ None
no_row p [] none = refl
no_row p (r ∷ rows) none = absurd (grind (arith, nat_tests))

plain_command : (script : Script) (c : ℕ) (text : List ℕ) (o : Option Command) → (length script.rows == 0) ≡ true → (length script.known == 0) ≡ true
    → by_command script c text o ≡ HandedOn
plain_command script c text None rows known = refl
plain_command script c text (Some command) rows known =
    ap (by_row script c text command) (no_row (matches command) script.rows rows) ∙ plain_row script c text command (no_names script.known command.method known)

both : (b c : Bool) → (b && c) ≡ true → (b ≡ true) × (c ≡ true)
both true true h = (refl, refl)
both true false h = cc
both false c h = cc

either_way : (b : Bool) (f : Fate) → f ≡ HandedOn → (if b then f else HandedOn) ≡ HandedOn
either_way true f e = e
either_way false f e = refl

-- without rows and names, a message is handed on
pub fate-plain : (past : List Deed) (script : Script) (c : ℕ) (text : List ℕ) → is_plain script ≡ true → fate past script (steps.Text c text) ≡ HandedOn
fate-plain past script c text plain =
    let parts = both (length script.rows == 0) (length script.known == 0) plain in
    either_way (is_open past c && is_json text) _ (plain_command script c text (command_of text) parts.0 parts.1)

-- and so it is on a connection that is not open
pub fate-closed : (past : List Deed) (script : Script) (c : ℕ) (text : List ℕ) → is_open past c ≡ false → fate past script (steps.Text c text) ≡ HandedOn
fate-closed past script c text closed = rw closed refl

nothing_command : (script : Script) (c : ℕ) (text : List ℕ) (o : Option Command)
    → ((command : Command) → o ≡ Some command → (find (matches command) script.rows ≡ None) × (asks_names script.known command.method ≡ false))
    → by_command script c text o ≡ HandedOn
nothing_command script c text None nothing = refl
nothing_command script c text (Some command) nothing =
    let it = nothing command refl in ap (by_row script c text command) it.0 ∙ plain_row script c text command it.1

not-json : (past : List Deed) (script : Script) (c : ℕ) (text : List ℕ) (b : Bool) → is_open past c ≡ b → is_json text ≡ false
    → fate past script (steps.Text c text) ≡ HandedOn
not-json past script c text true opened bad = rw (opened, bad) refl
not-json past script c text false closed bad = rw closed refl

-- a message for which nothing was found, or that is no JSON, is handed on
pub fate-nothing : (past : List Deed) (script : Script) (c : ℕ) (text : List ℕ)
    → (((command : Command) → command_of text ≡ Some command → (find (matches command) script.rows ≡ None) × (asks_names script.known command.method ≡ false))
    ⊎ (is_json text ≡ false)) → fate past script (steps.Text c text) ≡ HandedOn
fate-nothing past script c text (inl nothing) = either_way (is_open past c && is_json text) _ (nothing_command script c text (command_of text) nothing)
fate-nothing past script c text (inr bad) = not-json past script c text (is_open past c) refl bad

-- ---- a message for which something was found, on an open connection

-- the command that it is, and what becomes of it
pub fate-command : (past : List Deed) (script : Script) (c : ℕ) (text : List ℕ) (command : Command) → is_open past c ≡ true → is_json text ≡ true
    → command_of text ≡ Some command → fate past script (steps.Text c text) ≡ by_row script c text command (find (matches command) script.rows)
fate-command past script c text command opened json is = rw (opened, json, is) refl

-- a command that may ask for names
pub fate-names : (past : List Deed) (script : Script) (c : ℕ) (text : List ℕ) (command : Command) → is_open past c ≡ true → is_json text ≡ true
    → command_of text ≡ Some command → find (matches command) script.rows ≡ None → asks_names script.known command.method ≡ true
    → fate past script (steps.Text c text) ≡ AsksNames c text
fate-names past script c text command opened json is none asks =
    fate-command past script c text command opened json is ∙ (ap (by_row script c text command) none ∙ rw asks refl)

-- ---- which error came

ok_err : {T E : Type 0} {x : T} {w : E} → IsErrOf (Ok x) w → ⊥
ok_err i = cc

same_err : {T E : Type 0} (f w : E) → IsErrOf {T = T} (Err f) w → f ≡ w
same_err f w i = cc

-- a success is no error, whatever it is
pub worn-ok : {T U E P : Type 0} (x : T) (y : U) (w : E) → IsErrOf (Ok x) w ↔ P → IsErrOf (Ok y) w ↔ P
worn-ok x y w e = (λ i. absurd (ok_err i), λ p. absurd (ok_err (e.1 p)))

err_of : {T E : Type 0} (f w : E) → f ≡ w → IsErrOf {T = T} (Err f) w
err_of f w i = cc

-- an error is the same beside any success
pub err-beside : {T U E : Type 0} (f w : E) → IsErrOf {T = U} (Err f) w → IsErrOf {T = T} (Err f) w
err-beside {T = T} {U = U} f w i = err_of {T = T} f w (same_err {T = U} f w i)

pub worn-err : {T U E P : Type 0} (f w : E) → IsErrOf {T = T} (Err f) w ↔ P → IsErrOf {T = U} (Err f) w ↔ P
worn-err {T = T} {U = U} f w e = (λ i. e.0 (err-beside {T = T} {U = U} f w i), λ p. err-beside {T = U} {U = T} f w (e.1 p))

-- a step comes before the last if it does not wear the remote end out
pub not-worn : {T : Type 0} (t : T) (h : List Input) → IsErrOf (Ok t) WornOut ↔ (most_steps ≤ length h) → IsShort h
not-worn t h worn = lt_of_not-le (λ many. ok_err (worn.1 many))

-- ---- what is handed on

-- what the remote end says of a step is that it is handed on
pub as-handed : (step : Step) (old new : RemoteEnd) (r : Result (Vec declared_sent.Sent Global) RemoteFault)
    → IfOk r (λ sent. (i : Input) × IsHeardAs step i × ((h : List Input) → StandsFor old h → (map sent_of sent.items ≡ out h i) × StandsFor new (i ∷ h)))
    → ((h : List Input) → StandsFor old h → IfOk r (λ sent. AllReadBack (map sent_of sent.items)))
    → OnErr r ((h : List Input) → StandsFor old h → StandsFor new h)
    → ((h : List Input) → StandsFor old h → IsErrOf r WornOut ↔ (most_steps ≤ length h)) → IsHandedOn step old new (handed r)
as-handed step old new (Ok sent) ok reads err worn = record {
  ok = (ok.0, ok.1, λ h s. ((ok.2 h s).0, subst AllReadBack (ok.2 h s).0 (reads h s), (ok.2 h s).1));
  err = tt;
  worn_out = λ h s. worn-ok _ _ _ (worn h s);
}
as-handed step old new (Err e) ok reads err worn = record { ok = tt; err = err; worn_out = λ h s. worn-err _ _ (worn h s) }

-- a step that was handed on came before the last
pub on-short : (step : Step) (old new : RemoteEnd) (t : Taken) (h : List Input) → StandsFor old h → IsHandedOn step old new (Ok t) → IsShort h
on-short step old new t h s on = not-worn t h (on.worn_out h s)

-- a step that was handed on, where the script is as it should be
pub handed_on : (step : Step) (old new : RemoteEnd) (script after : Script) (r : Result Taken RemoteFault) (h : List Input) → StandsFor old h
    → IsHandedOn step old new r → after ≡ after_step (deeds h) step script → IfOk r (λ t. Becomes HandedOn h step old script new after t)
handed_on step old new script after (Err e) h s on same = tt
handed_on step old new script after (Ok t) h s on same =
    (on.ok.0, on.ok.1, (on.ok.2 h s).0, (on.ok.2 h s).2, same, on-short step old new t h s on)

-- a message that the remote end heard
pub heard-on : (c : ℕ) (text : List ℕ) (old new : RemoteEnd) (script : Script) (sent : Vec declared_sent.Sent Global) (h : List Input) → StandsFor old h
    → IsHeard c text old new sent.items → Becomes HandedOn h (steps.Text c text) old script new script (code.HandedOn sent)
heard-on c text old new script sent h s heard = let it = heard.2 h s in (heard.0, heard.1, it.0, it.2, refl, it.3)

-- what becomes of a step, by another name of its fate
pub becomes : (f g : Fate) (step : Step) (old new : RemoteEnd) (script after : Script) (r : Result Taken RemoteFault) (h : List Input) → f ≡ g
    → IfOk r (λ t. Becomes f h step old script new after t) → IfOk r (λ t. Becomes g h step old script new after t)
becomes f g step old new script after r h e is = subst (λ x. IfOk r (λ t. Becomes x h step old script new after t)) e is

-- ---- after an error

-- what holds anyway, and what holds after an error
pub with_err : {T E : Type 0} (r : Result T E) (A B : Type 0) → B → OnErr r A → OnErr r (B × A)
with_err (Ok x) A B b a = tt
with_err (Err e) A B b a = (b, a)

-- what holds after an error, and what holds anyway
pub err_with : {T E : Type 0} (r : Result T E) (A B : Type 0) → OnErr r A → B → OnErr r (A × B)
err_with (Ok x) A B a b = tt
err_with (Err e) A B a b = (a, b)

-- ---- a step that was taken

-- a step that goes to the machine whatever the script is
pub taken-handed : (step : Step) (old new : RemoteEnd) (script after : Script) (r : Result Taken RemoteFault)
    → ((h : List Input) → StandsFor old h → fate (deeds h) script step ≡ HandedOn) → ((past : List Deed) → after_step past step script ≡ script)
    → IsHandedOn step old new r → after ≡ script → IsTaken step old script new after r
taken-handed step old new script after r goes stays on same = record {
  plain = λ e. on;
  stays = λ e. same ∙ e;
  becomes = λ h s. becomes HandedOn (fate (deeds h) script step) step old new script after r h (sym (goes h s))
      (handed_on step old new script after r h s on (same ∙ sym (stays (deeds h))));
  err = with_err r _ _ same on.err;
  worn_out = λ h s e. (on.worn_out h s).0 e;
}

-- a message that was taken by what was found for it
pub taken-found : (step : Step) (old new : RemoteEnd) (script after : Script) (r : Result Taken RemoteFault) → is_plain script ≡ false
    → ((h : List Input) → StandsFor old h → IfOk r (λ t. Becomes (fate (deeds h) script step) h step old script new after t))
    → OnErr r ((after ≡ script) × ((h : List Input) → StandsFor old h → StandsFor new h))
    → ((h : List Input) → StandsFor old h → IsErrOf r WornOut → most_steps ≤ length h) → IsTaken step old script new after r
taken-found step old new script after r busy brings err worn = record {
  plain = λ e. absurd (true≢false (sym (ap is_plain e) ∙ busy));
  stays = λ e. absurd (true≢false (sym (ap is_plain e) ∙ busy));
  becomes = brings;
  err = err;
  worn_out = worn;
}

opened-ok : (step : Step) (old new : RemoteEnd) (script after : Script) (r : Result Taken RemoteFault) (h : List Input) → StandsFor old h
    → IsHandedOn step old new r → OnOk r (after ≡ after_step (deeds h) step script) → IfOk r (λ t. Becomes HandedOn h step old script new after t)
opened-ok step old new script after (Err e) h s on same = tt
opened-ok step old new script after (Ok t) h s on same =
    (on.ok.0, on.ok.1, (on.ok.2 h s).0, (on.ok.2 h s).2, same, on-short step old new t h s on)

opened-err : (r : Result Taken RemoteFault) (A B : Type 0) → OnErr r A → OnErr r B → OnErr r (A × B)
opened-err (Ok t) A B a b = tt
opened-err (Err e) A B a b = (a, b)

-- a connection that was opened, or not
pub taken-opened : (c : ℕ) (resource : List ℕ) (old new : RemoteEnd) (script after : Script) (r : Result Taken RemoteFault)
    → IsHandedOn (steps.Open c resource) old new r
    → ((h : List Input) → StandsFor old h → OnOk r (after ≡ after_step (deeds h) (steps.Open c resource) script)) → OnErr r (after ≡ script)
    → (script ≡ no_script → after ≡ script) → IsTaken (steps.Open c resource) old script new after r
taken-opened c resource old new script after r on same kept plain = record {
  plain = λ e. on;
  stays = λ e. plain e ∙ e;
  becomes = λ h s. opened-ok (steps.Open c resource) old new script after r h s on (same h s);
  err = opened-err r _ _ kept on.err;
  worn_out = λ h s e. (on.worn_out h s).0 e;
}

-- ---- a command for which there is a row

-- the row answers it
pub row-answers : (script : Script) (c : ℕ) (text : List ℕ) (command : Command) (id : ℕ) (past : List Deed) (o : Option Row) (r : Row) (sent : List Sent)
    → o ≡ Some r → Some sent ≡ sent_by past script.named c id r.action → command.id ≡ id
    → (answer : Answer) × (by_row script c text command o ≡ Answered c command answer) × (sent ≡ answer_sent past script.named c command.id answer)
row-answers script c text command id past o r sent is by same = of r.action refl
  where
    some-none : {X : Type 0} {x : X} → Some x ≡ None → ⊥
    some-none e = cc

    of : (a : Action) → r.action ≡ a
        → (answer : Answer) × (by_row script c text command o ≡ Answered c command answer) × (sent ≡ answer_sent past script.named c command.id answer)
    of (Answers answer) act = (
      answer,
      ap (by_row script c text command) is ∙ ap (by_action script c text command) act,
      ap (λ x. unwrap_or x []) (by ∙ ap (sent_by past script.named c id) act) ∙ ap (λ n. answer_sent past script.named c n answer) (sym same),
    )
    of Holds act = absurd (some-none (by ∙ ap (sent_by past script.named c id) act))

-- the row holds it
pub row-holds : (script : Script) (c : ℕ) (text : List ℕ) (command : Command) (id : ℕ) (past : List Deed) (o : Option Row) (r : Row)
    → o ≡ Some r → (let none : Option (List Sent) = None in none ≡ sent_by past script.named c id r.action)
    → by_row script c text command o ≡ by_action script c text command Holds
row-holds script c text command id past o r is by = of r.action refl
  where
    none-some : {X : Type 0} {x : X} → (let none : Option X = None in none ≡ Some x) → ⊥
    none-some e = cc

    of : (a : Action) → r.action ≡ a → by_row script c text command o ≡ by_action script c text command Holds
    of (Answers answer) act = absurd (none-some (by ∙ ap (sent_by past script.named c id) act))
    of Holds act = ap (by_row script c text command) is ∙ ap (by_action script c text command) act

-- what is anyway so, after a success
pub anyhow : {T E A : Type 0} (r : Result T E) → A → OnOk r A
anyhow (Ok t) a = a
anyhow (Err e) a = tt

-- what is anyway so
pub anyway : {T E A : Type 0} (r : Result T E) → A → OnErr r A
anyway (Ok t) a = tt
anyway (Err e) a = a

-- what follows from a success
pub on-ok : {T E A B : Type 0} (r : Result T E) → (A → B) → OnOk r A → OnOk r B
on-ok (Ok t) f a = f a
on-ok (Err e) f a = tt

pub if-ok : {T E : Type 0} {P Q : T → Type 0} (r : Result T E) → ((t : T) → P t → Q t) → IfOk r P → IfOk r Q
if-ok (Ok t) f p = f t p
if-ok (Err e) f p = tt

-- what follows from a success, and from what else holds after it
pub if-ok-on : {T E X : Type 0} {P Q : T → Type 0} (r : Result T E) → ((t : T) → P t → X → Q t) → IfOk r P → OnOk r X → IfOk r Q
if-ok-on (Ok t) f p x = f t p x
if-ok-on (Err e) f p x = tt

-- ---- a command that is held

-- there is no room
pub hold-refused : {E : Type 0} (script : Script) (c : ℕ) (text : List ℕ) (command : Command) (id : ℕ) (h : List Input) (step : Step) (end : RemoteEnd)
    (r : Result Taken E) → has_room_for_command script (length text) ≡ false → command.id ≡ id
    → IfOk r (IsOfTest (Text c (error_text (Some id) UnknownError) ∷ [])) → IfOk r (λ t. Becomes (by_action script c text command Holds) h step end script end script t)
hold-refused script c text command id h step end (Err e) full same is = tt
hold-refused script c text command id h step end (Ok t) full same is =
    subst (λ f. Becomes f h step end script end script t) (sym (ap (λ b. if b then Held c command text else Unheld c command) full))
    (subst (λ n. IsOfTest (Text c (error_text (Some n) UnknownError) ∷ []) t) (sym same) is, refl, refl)

-- there is room
pub hold-held : (script after : Script) (c : ℕ) (text : List ℕ) (command : Command) (id number : ℕ) (h : List Input) (step : Step) (end : RemoteEnd)
    → has_room_for_command script (length text) ≡ true → command.id ≡ id → number ≡ script.next → after ≡ with_held c id text (with_use command script)
    → Becomes (by_action script c text command Holds) h step end script end after (code.Held number)
hold-held script after c text command id number h step end room same is holds =
    subst (λ f. Becomes f h step end script end after (code.Held number)) (sym (ap (λ b. if b then Held c command text else Unheld c command) room))
    (is, refl, holds ∙ ap (λ n. with_held c n text (with_use command script)) (sym same))

-- ---- what is found

-- for a message that is no command
pub no-command : (rows : List declared_row.Row) (known : List (List ℕ)) (text : List ℕ) → (let none : Option Command = None in command_of text ≡ none)
    → IsFound None rows known text
no-command rows known text none = λ command is. absurd (none-some (sym none ∙ is))
  where
    none-some : {X : Type 0} {x : X} → (let none : Option X = None in none ≡ Some x) → ⊥
    none-some e = cc

-- for a command for which there is no row
pub nothing-found : (rows : List declared_row.Row) (known : List (List ℕ)) (text : List ℕ) (command : Command) → command_of text ≡ Some command
    → (let none : Option ℕ = None in position (is_for command) rows ≡ none) → IsFound (found_names (asks_names known command.method)) rows known text
nothing-found rows known text command is none = by (asks_names known command.method) refl
  where
    by : (b : Bool) → asks_names known command.method ≡ b → IsFound (found_names b) rows known text
    by true asks = (command, is, found-none command rows none, asks)
    by false asks = λ other this. subst (λ (k : Command). (find (matches k) (map row_of rows) ≡ None) × (asks_names known k.method ≡ false))
        (some-same _ _ (sym is ∙ this)) (found-none command rows none, asks)
