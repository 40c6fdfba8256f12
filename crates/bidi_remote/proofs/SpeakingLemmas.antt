-- Whatever the history, a session is active that a connection speaks for.
use Rattle.std.proofs.Common.{◌≡◌, ◌<◌, ◌≤◌, ℕ, suc, Bool, true, false, cond, List, [], ◌∷◌, length, refl, arith, Result, Ok, Err, Option, Some, None}
use Rattle.std.specs.Prelude.{◌==◌, if◌then◌else◌}
use Rattle.std.proofs.lemmas.Bool.Decides.{nat_tests}
use Rattle.bidi_remote.specs.Machine.History.{Input, Deed, Opened, Dropped, Began, Ended, Subscribed, Did, acts}
use Rattle.bidi_remote.specs.Machine.Sessions.{sessions_made, is_active}
use Rattle.bidi_remote.specs.Machine.Connections.{Attachment, Shut, Alone, SpeaksFor, is_for, opened_for, attachment_of}
use Rattle.bidi_remote.specs.Machine.Subscriptions.{subscriptions_made}
use Rattle.bidi_remote.specs.Machine.Outcome.{NotTaken, turn, with_turn, deeds}
use Rattle.bidi_contexts.specs.Tables.{HasIds}
use Rattle.bidi_contexts.proofs.BirthLemmas.{given-few}
use Rattle.bidi_remote.specs.State.Stands.{IsShort}
use Rattle.bidi_remote.proofs.OpeningLemmas.{IsFairIfDone, turn_fair}
use Rattle.bidi_remote.proofs.SessionLemmas.{active_made}

-- a session is active that a connection speaks for
abbrev AreActive : List Deed → Type 0
AreActive past = (c s : ℕ) → attachment_of past c ≡ SpeaksFor s → is_active past s ≡ true

-- what was just opened speaks for the session that it was opened for
opened_speaks : (o : Option ℕ) (s : ℕ) → opened_for o ≡ SpeaksFor s → o ≡ Some s
opened_speaks None s e = cc
opened_speaks (Some t) s e = cc

-- what speaks for a session after the end of one spoke for it before, and another ended
still_for : (t s : ℕ) (x : Attachment) → (if is_for t x then Shut else x) ≡ SpeaksFor s → (x ≡ SpeaksFor s) × ((s == t) ≡ false)
still_for t s Shut e = cc
still_for t s Alone e = cc
still_for t s (SpeaksFor u) e = grind (arith, nat_tests)

-- one turn more
active_more : (past : List Deed) (r : Result Deed NotTaken) → IsFairIfDone past r → AreActive past → AreActive (with_turn past r)
active_more past (Err refusal) fair was = was
active_more past (Ok (Opened d o)) fair was =
    λ c s e. let so = was c s in
    let named = fair s in
    let opened = opened_speaks o s in
    grind (arith, nat_tests, so, named, opened)
active_more past (Ok (Dropped d)) fair was = λ c s e. let so = was c s in grind (arith, nat_tests, so)
active_more past (Ok (Began d)) fair was = λ c s e. let so = was c s in grind (arith, nat_tests, so)
active_more past (Ok (Ended t)) fair was = λ c s e. let still = still_for t s (attachment_of past c) e in rw still.1 (was c s still.0)
active_more past (Ok d) fair was = was

-- so it is after every history
pub speaks-active : (h : List Input) (c s : ℕ) → attachment_of (deeds h) c ≡ SpeaksFor s → is_active (deeds h) s ≡ true
speaks-active [] c s e = cc
speaks-active (i ∷ h) c s e = active_more (deeds h) (turn (deeds h) i) (turn_fair (deeds h) i) (speaks-active h) c s e

-- ---- so a session makes no subscription before it is made

-- a session that is not made has made none
abbrev HaveNone : List Deed → Type 0
HaveNone past = (s : ℕ) → sessions_made past < s → subscriptions_made past s ≡ 0

-- one turn more
none_more : (past : List Deed) (r : Result Deed NotTaken) → IsFairIfDone past r → AreActive past → HaveNone past → HaveNone (with_turn past r)
none_more past (Err refusal) fair active was = was
none_more past (Ok (Began c)) fair active was = λ s less. was s (omega arith)
none_more past (Ok (Subscribed t es scope)) fair active was = λ s less.
    let so = was s less in
    let made = active_made past t (active fair.0 t fair.1) in
    grind (arith, nat_tests, so, made)
none_more past (Ok d) fair active was = was

-- so it is after every history
pub made-none : (h : List Input) (s : ℕ) → sessions_made (deeds h) < s → subscriptions_made (deeds h) s ≡ 0
made-none [] s less = refl
made-none (i ∷ h) s less = none_more (deeds h) (turn (deeds h) i) (turn_fair (deeds h) i) (speaks-active h) (made-none h) s less

-- ---- and there are no more sessions and subscriptions than steps

sessions_more : (past : List Deed) (r : Result Deed NotTaken) → sessions_made (with_turn past r) ≤ suc (sessions_made past)
sessions_more past (Err refusal) = omega arith
sessions_more past (Ok (Began c)) = omega arith
sessions_more past (Ok d) = omega arith

pub few-sessions : (h : List Input) → sessions_made (deeds h) ≤ length h
few-sessions [] = omega arith
few-sessions (i ∷ h) = let more = sessions_more (deeds h) (turn (deeds h) i) in let ih = few-sessions h in omega (arith, more, ih)

made_one : (b : Bool) (n : ℕ) → cond b (suc n) n ≤ suc n
made_one true n = omega arith
made_one false n = omega arith

subscriptions_more : (past : List Deed) (r : Result Deed NotTaken) (s : ℕ) → subscriptions_made (with_turn past r) s ≤ suc (subscriptions_made past s)
subscriptions_more past (Err refusal) s = omega arith
subscriptions_more past (Ok (Subscribed t es scope)) s = made_one (s == t) (subscriptions_made past s)
subscriptions_more past (Ok d) s = omega arith

pub few-subscriptions : (h : List Input) (s : ℕ) → subscriptions_made (deeds h) s ≤ length h
few-subscriptions [] s = omega arith
few-subscriptions (i ∷ h) s = let more = subscriptions_more (deeds h) (turn (deeds h) i) s in let ih = few-subscriptions h s in omega (arith, more, ih)

-- ---- so ids are left for what the browser makes

acts_more : (past : List Deed) (r : Result Deed NotTaken) → length (acts (with_turn past r)) ≤ suc (length (acts past))
acts_more past (Err refusal) = omega arith
acts_more past (Ok (Did act)) = omega arith
acts_more past (Ok d) = omega arith

few-acts : (h : List Input) → length (acts (deeds h)) ≤ length h
few-acts [] = omega arith
few-acts (i ∷ h) = let more = acts_more (deeds h) (turn (deeds h) i) in let ih = few-acts h in omega (arith, more, ih)

pub has-ids : (h : List Input) → IsShort h → HasIds (acts (deeds h))
has-ids h short kind = let few = few-acts h in let given = given-few (acts (deeds h)) kind in omega (arith, few, given, short)
