-- What the calls of a scripted end bring about, as the outcome of a line.
use Rattle.std.proofs.Common.{◌≡◌, ◌<◌, ◌≤◌, ◌+◌, ◌⊎◌, inr, ℕ, Bool, true, false, ◌&&◌, List, length, Option, Some, None, Result, Ok, Err, refl, ap, subst, arith}
use Rattle.std.specs.Prelude.{nat_le, nat_lt, IfOk, OnOk}
use Rattle.std.specs.List.{list_all}
use Rattle.std.proofs.lemmas.Bool.Decides.{nat_tests}
use Rattle.bidi_rows.specs.Rows.{Row, Event, Answer}
use Rattle.bidi_rows.specs.Filling.{Template}
use Rattle.bidi_rows.specs.Reading.{IsAnswer, IsEventText}
use Rattle.bidi_rows.specs.Templates.{AreTemplateTexts}
use Rattle.bidi_rows.specs.declared.fault.RowFault.{RowFault}
use Rattle.bidi_rows.proofs.RefusalLemmas.{no-answer-text, no-event-text, no-template-text}
use Rattle.bidi_scripted.specs.declared.fault.ScriptFault.{ScriptFault}
use Rattle.bidi_scripted.specs.declared.fault.ScriptFault.TheVariants.{NoMemory, WornOut, BadRow, TooManyRows, TooMuchKept, BadName, TooManyNames, NoRow, NotHeld}
use Rattle.bidi_scripted.specs.Faults.{RefusesRow, RefusesRemoval, RefusesFollower, RefusesNames, RefusesEvent, RefusesRelease, RefusesAnswer}
use Rattle.bidi_names.specs.Names.{words, can_be_known, new_words}
use Rattle.bidi_scripted.specs.Script.{Script, most_rows, most_known, can_keep, has_room_for_row, has_room_for_follower, has_room_for_names, has_method}
use Rattle.bidi_scripted.specs.Script as script
use Rattle.bidi_remote.specs.Machine.Sent.{Sent}
use Rattle.bidi_scripted.specs.declared.scripted_end.ScriptedEnd.{ScriptedEnd}
use Rattle.bidi_scripted.specs.declared.scripted_end.Taken.{Taken}
use Rattle.bidi_scripted.specs.declared.scripted_end.Taken.TheVariants as taken
use Rattle.bidi_scripted.specs.Taken.{IsOfMachine, IsOfTest}
use Rattle.bidi_script_lines.specs.Outcomes.{Outcome, OfMachine, OfTest, NoEffect, outcome_of}
use Rattle.bidi_script_lines.specs.declared.outcome.Outcome as declared
use Rattle.bidi_remote.specs.Machine.History.{Input}
use Rattle.bidi_script_lines.specs.ScriptLines.{Line}
use Rattle.bidi_script_lines.specs.Performing.{Brings, HasReason, HasNoEffect, IsUnchanged, StandsAsBefore, can_know, taken_outcome}

-- what the test sends
pub taken-of_test : (t : Taken) (sent : List Sent) → IsOfTest sent t → taken_outcome t ≡ OfTest sent
taken-of_test (taken.Answered all) sent is = ap OfTest is
taken-of_test t sent is = absurd is

-- what the remote end sends
pub taken-of_machine : (t : Taken) (sent : List Sent) → IsOfMachine sent t → taken_outcome t ≡ OfMachine sent
taken-of_machine (taken.HandedOn all) sent is = ap OfMachine is
taken-of_machine t sent is = absurd is

ok-err : {T E : Type 0} {t : T} {e : E} → Ok t ≡ Err e → ⊥
ok-err e = cc

-- a call that succeeds was asked for something that is there
pub there : {A T E : Type 0} {t : T} {e : E} (o : Option A) → (o ≡ None → Ok t ≡ Err e) → (a : A) × (o ≡ Some a)
there None f = absurd (ok-err (f refl))
there (Some a) f = (a, refl)

-- a reason for which nothing has happened
pub no-effect : {E : Type 0} (A : Outcome → Type 0) (B : Type 0) (W : ScriptFault → Type 0) (fault : ScriptFault) (old new : ScriptedEnd) (r : Result declared.Outcome E)
    → IfOk r (λ o. (reason : List ℕ) × (outcome_of o ≡ NoEffect reason)) → OnOk r (HasReason fault) → W fault → ((f : ScriptFault) → HasReason f → W f → B)
    → IsUnchanged old new → IfOk r (λ o. A (outcome_of o) ⊎ (B × HasNoEffect old new (outcome_of o)))
no-effect A B W fault old new (Ok o) (reason, is) some why because same = inr (because fault some why, (reason, is, same))
no-effect A B W fault old new (Err e) p some why because same = tt

-- the same for a held command that is not released
pub not-released : {E : Type 0} (A : Outcome → Type 0) (B : Type 0) (W : ScriptFault → Type 0) (fault : ScriptFault) (old new : ScriptedEnd) (r : Result declared.Outcome E)
    → IfOk r (λ o. (reason : List ℕ) × (outcome_of o ≡ NoEffect reason)) → OnOk r (HasReason fault) → W fault → ((f : ScriptFault) → HasReason f → W f → B)
    → StandsAsBefore old new
    → IfOk r (λ o. A (outcome_of o) ⊎ (B × (reason : List ℕ) × (outcome_of o ≡ NoEffect reason) × StandsAsBefore old new))
not-released A B W fault old new (Ok o) (reason, is) some why because same = inr (because fault some why, reason, is, same)
not-released A B W fault old new (Err e) p some why because same = tt

-- what a line brings about, another form of the line does
pub brings-as : {E : Type 0} (l m : Line) (h : List Input) (old new : ScriptedEnd) (r : Result declared.Outcome E) → l ≡ m
    → IfOk r (λ o. Brings l h old new (outcome_of o)) → IfOk r (λ o. Brings m h old new (outcome_of o))
brings-as l m h old new r e p = subst (λ k. IfOk r (λ o. Brings k h old new (outcome_of o))) e p

-- ---- why nothing has happened

full : (a b : ℕ) (c : Bool) → b ≤ a → nat_lt a b && c ≡ false
full a b c more = grind (arith, nat_tests, more)

unkept : (b c : Bool) → c ≡ false → b && c ≡ false
unkept true c e = e
unkept false c e = refl

over : (a b : ℕ) → b < a → nat_le a b ≡ false
over a b more = grind (arith, nat_tests, more)

first : (b c : Bool) → b ≡ false → b && c ≡ false
first true c e = cc
first false c e = refl

-- a row is not added
pub no-row : (R : RowFault → Type 0) (IsRow : Row → Type 0) → ((g : RowFault) → R g → (row : Row) → IsRow row → ⊥) → (s : Script) (bytes : ℕ) (f : ScriptFault)
    → HasReason f → RefusesRow R IsRow s bytes f → (row : Row) → IsRow row → has_room_for_row s bytes ≡ false
no-row R IsRow none s bytes NoMemory some why row is = absurd some
no-row R IsRow none s bytes (BadRow g) some why row is = absurd (none g why row is)
no-row R IsRow none s bytes TooManyRows some why row is = full (length s.rows) most_rows (can_keep s bytes) why.1
no-row R IsRow none s bytes TooMuchKept some why row is = unkept (nat_lt (length s.rows) most_rows) (can_keep s bytes) why.2
no-row R IsRow none s bytes f some why row is = absurd why

-- events do not follow others
pub no-follower : (text : List ℕ) (s : Script) (f : ScriptFault) → HasReason f → RefusesFollower text s f
    → (ts : List Template) → AreTemplateTexts text ts → has_room_for_follower s (length text) ≡ false
no-follower text s NoMemory some why ts are = absurd some
no-follower text s (BadRow g) some why ts are = absurd (no-template-text text g why ts are)
no-follower text s TooManyRows some why ts are = full (length s.followers) most_rows (can_keep s (length text)) why.1
no-follower text s TooMuchKept some why ts are = unkept (nat_lt (length s.followers) most_rows) (can_keep s (length text)) why.2
no-follower text s f some why ts are = absurd why

-- names do not become known
pub no-names : (text : List ℕ) (s : Script) (f : ScriptFault) → HasReason f → RefusesNames text s f → can_know text s ≡ false
no-names text s NoMemory some why = absurd some
no-names text s BadName some why = first (list_all can_be_known (words text)) (has_room_for_names s (words text)) why
no-names text s TooManyNames some why =
    unkept (list_all can_be_known (words text)) (has_room_for_names s (words text)) (over (length s.known + length (new_words s.known (words text))) most_known why.1)
no-names text s f some why = absurd why

-- names that can become known
pub are-names : (text : List ℕ) (s : Script) → list_all can_be_known (words text) ≡ true → has_room_for_names s (words text) ≡ true → can_know text s ≡ true
are-names text s names room = λ i. names i && room i

-- no row is removed
pub no-removal : (method : List ℕ) (s : Script) (f : ScriptFault) → HasReason f → RefusesRemoval method s f → has_method method s ≡ false
no-removal method s NoRow some why = why
no-removal method s f some why = absurd why

-- an event is not sent
pub no-event : (text : List ℕ) (f : ScriptFault) → HasReason f → RefusesEvent text f → (e : Event) → IsEventText text e → ⊥
no-event text NoMemory some why e is = some
no-event text WornOut some why e is = some
no-event text (BadRow g) some why e is = no-event-text text g why e is
no-event text f some why e is = why

-- a command is not released
pub no-release : (held : Option script.Held) (f : ScriptFault) → HasReason f → RefusesRelease held f → held ≡ None
no-release held NoMemory some why = absurd some
no-release held WornOut some why = absurd some
no-release held NotHeld some why = why
no-release held f some why = absurd why

none-some : {X : Type 0} {o : Option X} {x : X} → o ≡ None → o ≡ Some x → ⊥
none-some e f = cc

-- a command is not answered
pub no-answer : (text : List ℕ) (o : Option script.Held) (f : ScriptFault) → HasReason f → RefusesAnswer text o f
    → (held : script.Held) (answer : Answer) → o ≡ Some held → IsAnswer text answer → ⊥
no-answer text o NoMemory some why held answer was is = some
no-answer text o WornOut some why held answer was is = some
no-answer text o NotHeld some why held answer was is = none-some why was
no-answer text o (BadRow g) some why held answer was is = no-answer-text text g why.1 answer is
no-answer text o f some why held answer was is = why
