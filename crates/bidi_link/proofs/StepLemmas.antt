-- After each step, the state of both ends corresponds to the past with that step.
use Rattle.std.proofs.Common.{◌≡◌, ◌∙◌, ◌<◌, ◌≤◌, ◌+◌, ◌^◌, ℕ, suc, Bool, true, false, List, [], ◌∷◌, ◌++◌, map, length}
use Rattle.std.proofs.Common.{Option, Some, None, Result, Ok, Err, append-nil, refl, sym, ap, ap₂, subst, arith}
use Rattle.std.specs.Prelude.{◌==◌, ◌&&◌, take, get_or, IsErrOf, not, slice_get, if◌then◌else◌, nat_lt, OnOk, IfOk}
use Rattle.bidi_messages.specs.Verdict.{Verdict, Accepted}
use Rattle.bidi_methods.specs.declared.method.Method.{Method}
use Rattle.bidi_methods.specs.Method.{method_text}
use Rattle.bidi_scripts.specs.declared.log_entry.Level.{Level}
use Rattle.bidi_sessions.specs.Step as steps
use Rattle.bidi_sessions.specs.Step.{Text}
use Rattle.bidi_remote.specs.Machine.History.{Input, At, Open, Drop, Heard, OfPage, IsHeardAs}
use Rattle.bidi_remote.specs.Machine.Connections.{is_open}
use Rattle.bidi_remote.specs.Machine.Outcome.{deeds}
use Rattle.bidi_remote.specs.Replies.{IsAnsweredOnce}
use Rattle.bidi_remote.specs.Machine.Sent.{out}
use Rattle.bidi_remote.specs.Machine.Messages.{AllReadBack}
use Rattle.bidi_messages.proofs.VerdictLemmas.{one_verdict}
use Rattle.bidi_remote.proofs.RouteLemmas.{IsUnheard, IsApart, events-unheard}
use Rattle.std.specs.Result.{IsErrAnd}
use Rattle.bidi_remote.specs.declared.remote_end.RemoteFault.{RemoteFault}
use Rattle.bidi_remote.specs.declared.remote_end.RemoteFault.TheVariants.{WornOut}
use Rattle.bidi_link.specs.declared.ends.Ends.{Ends}
use Rattle.bidi_ledger.specs.Pairing.{Sending, Deed, Handed, Linked, Sent, Unsent, TakenUp, TakenDown, Cut}
use Rattle.bidi_ledger.specs.Pairing.{history, is_link, is_cut, commands, ups, downs, texts, unsent}
use Rattle.bidi_ledger.specs.Link.{Link, link, may_send, tree_of_sending, account}
use Rattle.bidi_ledger.specs.Ledger.{PairInput, Opens, Sends, Up, Down, Cuts, Direct, with_step, past_after, is_whole, is_connected, taken_up, dropped}
use Rattle.bidi_ledger.specs.declared.pair_step.PairStep.{PairStep}
use Rattle.bidi_ledger.specs.Steps.{IsDirect, IsHeardAs as IsHeardAsPair, AreHeardAs}
use Rattle.bidi_link.specs.declared.link_end.LinkEnd.{LinkEnd}
use Rattle.bidi_link.specs.Rows.{Agrees, account_in_hand, blank, with_cut}
use Rattle.bidi_link.specs.Stands.{StandsFor, IsSane, Both, CanCount, IsNextUp, RowsAgree, numbers}
use Rattle.bidi_link.proofs.PastLemmas.{cut-of}
use Rattle.bidi_link.proofs.SaneLemmas.{unknown-events, sane-denied, sane-linked, sane-beside, sane-up, sane-of, sound-so}

-- ---- opening

pub opens-known : (past : List Deed) (l : ℕ) (resource : List ℕ) → is_link past l ≡ true → with_step past (Opens l resource) ≡ past
opens-known past l resource there = rw there refl

opens-linked : (past : List Deed) (l : ℕ) (resource : List ℕ) → is_link past l ≡ false → is_connected past l ≡ false
    → is_connected (Handed (Open l resource) ∷ past) l ≡ true → with_step past (Opens l resource) ≡ Linked l ∷ Handed (Open l resource) ∷ past
opens-linked past l resource none shut unshut = at (is_link past l) (is_connected (Handed (Open l resource) ∷ past) l) (is_connected past l) none unshut shut
  where
    at : (a b c : Bool) → a ≡ false → b ≡ true → c ≡ false
        → (if a then past else if b && not c then Linked l ∷ Handed (Open l resource) ∷ past else Handed (Open l resource) ∷ past)
        ≡ Linked l ∷ Handed (Open l resource) ∷ past
    at false true false x y z = refl
    at true b c x y z = cc x
    at false false c x y z = cc y
    at false true true x y z = cc z

opens-denied : (past : List Deed) (l : ℕ) (resource : List ℕ) → is_link past l ≡ false
    → is_connected (Handed (Open l resource) ∷ past) l ≡ false → with_step past (Opens l resource) ≡ Handed (Open l resource) ∷ past
opens-denied past l resource none shut = at (is_link past l) (is_connected (Handed (Open l resource) ∷ past) l) (is_connected past l) none shut
  where
    at : (a b c : Bool) → a ≡ false → b ≡ false
        → (if a then past else if b && not c then Linked l ∷ Handed (Open l resource) ∷ past else Handed (Open l resource) ∷ past)
        ≡ Handed (Open l resource) ∷ past
    at false false c x y = refl
    at true b c x y = cc x
    at false true c x y = cc y

pub open-linked : (handed new : Ends) (past : List Deed) (l : ℕ) (resource : List ℕ) (i : Input)
    → i ≡ Open l resource → is_link past l ≡ false → StandsFor handed (Handed i ∷ past) → AllReadBack (out (history past) i) → IsSane past
    → is_open (deeds (i ∷ history past)) l ≡ true
    → ((p : List Deed) → StandsFor handed p → is_link p l ≡ false → link p l ≡ blank → StandsFor new (Linked l ∷ p))
    → Both new (with_step past (Opens l resource))
open-linked handed new past l resource i is none stands reads sane unshut added = subst (Both new) (sym (opens-linked past l resource none known.1 now)) (
  added (Handed (Open l resource) ∷ past) (subst (λ x. StandsFor handed (Handed x ∷ past)) is stands) none
      (unknown-events past (Open l resource) l known.0 known.1 (events-unheard (history past) l (Open l resource) tt)),
  sane-linked past l resource sane (subst (λ x. AllReadBack (out (history past) x)) is reads),
)
  where
    known : (link past l ≡ blank) × (is_connected past l ≡ false)
    known = sane.unknown l none

    now : is_connected (Handed (Open l resource) ∷ past) l ≡ true
    now = subst (λ x. is_open (deeds (x ∷ history past)) l ≡ true) is unshut

pub open-denied : (new : Ends) (past : List Deed) (l : ℕ) (resource : List ℕ) (i : Input)
    → i ≡ Open l resource → is_link past l ≡ false → StandsFor new (Handed i ∷ past) → AllReadBack (out (history past) i) → IsSane past
    → is_open (deeds (i ∷ history past)) l ≡ false → Both new (with_step past (Opens l resource))
open-denied new past l resource i is none stands reads sane shut = subst (Both new) (sym (opens-denied past l resource none now)) (
  subst (λ x. StandsFor new (Handed x ∷ past)) is stands,
  sane-denied past l resource sane (subst (λ x. AllReadBack (out (history past) x)) is reads) now,
)
  where
    now : is_connected (Handed (Open l resource) ∷ past) l ≡ false
    now = subst (λ x. is_open (deeds (x ∷ history past)) l ≡ false) is shut

-- ---- taking up

-- a text has one verdict, and is heard as the command that was sent
pub up-handed : (new : Ends) (past : List Deed) (l : ℕ) (c : Sending) (method : Method) (v : Verdict) (i : Input)
    → IsSane past → is_whole past l ≡ true → slice_get (commands past l) (ups past l) ≡ Some c → c.method ≡ method_text method
    → v ≡ Accepted (tree_of_sending (suc (ups past l)) c) → i ≡ Heard l v → StandsFor new (Handed i ∷ TakenUp l ∷ past)
    → IsAnsweredOnce (deeds (history past)) i → AllReadBack (out (history past) i) → Both new (with_step past (Up l))
up-handed new past l c method v i sane whole next named judged heard stands once reads = subst (Both new) (sym step) (
  subst (λ x. StandsFor new (Handed x ∷ TakenUp l ∷ past)) is stands,
  sane-up past l c method sane (there (is_link past l) (is_cut past l) whole) next named
      (subst (IsAnsweredOnce (deeds (history past))) is once) (subst (λ x. AllReadBack (out (history past) x)) is reads),
)
  where
    is : i ≡ Heard l (Accepted (tree_of_sending (suc (ups past l)) c))
    is = heard ∙ ap (Heard l) judged

    there : (a b : Bool) → (a && not b) ≡ true → a ≡ true
    there true b e = refl
    there false b e = cc e

    step : with_step past (Up l) ≡ Handed (Heard l (Accepted (tree_of_sending (suc (ups past l)) c))) ∷ TakenUp l ∷ past
    step = rw (whole, next) refl

-- the text that a link takes up is handed to the remote end
pub up-carried : {E : Type 0} (r : Result (Unit {0}) E) (taken new : Ends) (past : List Deed) (l : ℕ) (s : List ℕ)
    → ((c : Sending) × IsNextUp past l c s × StandsFor taken (TakenUp l ∷ past)) → IsSane past
    → IfOk r (λ u. (i : Input) × IsHeardAs (Text l s) i
    × ((p : List Deed) → StandsFor taken p → StandsFor new (Handed i ∷ p) × IsAnsweredOnce (deeds (history p)) i × AllReadBack (out (history p) i)))
    → OnOk r (Both new (with_step past (Up l)))
up-carried (Err e) taken new past l s next sane handed = tt
up-carried (Ok u) taken new past l s next sane handed =
    let c = next.0 in
    let up = next.1.upward in
    let h = handed.2 (TakenUp l ∷ past) next.2 in
    up-handed new past l c up.method handed.1.0 handed.0 sane next.1.whole next.1.next up.named (one_verdict handed.1.1 up.accepted) handed.1.2 h.0 h.1 h.2

pub up-not : (new : Ends) (past : List Deed) (l : ℕ) → ((with_step past (Up l) ≡ past) × StandsFor new past) → IsSane past → Both new (with_step past (Up l))
up-not new past l still sane = subst (Both new) (sym still.0) (still.1, sane)

-- ---- sending

link-there : (a b : Bool) → (a && not b) ≡ true → a ≡ true
link-there true b e = refl
link-there false b e = cc e

-- ---- cutting

pub cuts-not : (past : List Deed) (l : ℕ) → is_whole past l ≡ false → with_step past (Cuts l) ≡ past
cuts-not past l e = rw e refl

-- a link is whole as before, once its connection was dropped
whole-dropped : (past : List Deed) (l : ℕ) → is_whole (dropped past l) l ≡ is_whole past l
whole-dropped past l = at (is_connected past l)
  where
    at : (b : Bool) → is_whole (if b then Handed (Drop l) ∷ past else past) l ≡ is_whole past l
    at true = refl
    at false = refl

-- the connection is dropped, if it is open
pub drop-done : {E : Type 0} (r : Result (Unit {0}) E) (ends new : Ends) (past : List Deed) (l : ℕ)
    → StandsFor ends past → IsSane past → is_connected past l ≡ true
    → IfOk r (λ u. (i : Input) × IsHeardAs (steps.Drop l) i
    × ((p : List Deed) → StandsFor ends p → StandsFor new (Handed i ∷ p) × IsAnsweredOnce (deeds (history p)) i × AllReadBack (out (history p) i)))
    → OnOk r (Both new (dropped past l))
drop-done (Err e) ends new past l stands sane unshut handed = tt
drop-done (Ok u) ends new past l stands sane unshut handed =
    let h = handed.2 past stands in
    rw unshut (
      subst (λ x. StandsFor new (Handed x ∷ past)) handed.1 h.0,
      sane-beside past (Drop l) sane tt (λ k. tt) (subst (λ x. AllReadBack (out (history past) x)) handed.1 h.2),
    )

pub drop-not : (ends : Ends) (past : List Deed) (l : ℕ) → StandsFor ends past → IsSane past → is_connected past l ≡ false → Both ends (dropped past l)
drop-not ends past l stands sane shut = rw shut (stands, sane)

-- and the link is cut
pub cut-done : {E : Type 0} (r : Result (Unit {0}) E) (ends new : Ends) (past : List Deed) (l : ℕ) → is_whole past l ≡ true → Both ends (dropped past l)
    → ((p : List Deed) → StandsFor ends p → is_whole p l ≡ true → OnOk r (StandsFor new (Cut l ∷ p))) → OnOk r (Both new (with_step past (Cuts l)))
cut-done (Err e) ends new past l whole before row = tt
cut-done (Ok u) ends new past l whole before row =
    let p = dropped past l in
    let still = whole-dropped past l ∙ whole in
    rw whole (
      row p before.0 still,
      sane-of l (Cut l) p (with_cut (link p l)) [] (cut-of l p) (sym (append-nil (commands p l))) before.1
          (link-there (is_link p l) (is_cut p l) still) (sound-so (link p l) (with_cut (link p l)) refl refl refl (before.1.sound l)),
    )

-- ---- steps that the remote end takes by itself

-- a moment, or a step of a page
pub beside-done : {E : Type 0} (r : Result (Unit {0}) E) (ends new : Ends) (x : steps.Step)
    → ((i : Input) → IsHeardAs x i → IsUnheard i × ((h : List Input) (k : ℕ) → IsApart h k i))
    → IfOk r (λ u. (i : Input) × IsHeardAs x i
    × ((p : List Deed) → StandsFor ends p → StandsFor new (Handed i ∷ p) × IsAnsweredOnce (deeds (history p)) i × AllReadBack (out (history p) i)))
    → IfOk r (λ u. (q : PairInput) × IsDirect x q × ((p : List Deed) → StandsFor ends p → IsSane p → CanCount p → Both new (with_step p q)))
beside-done (Err e) ends new x quiet handed = tt
beside-done (Ok u) ends new x quiet handed = (
  Direct handed.0,
  (handed.0, handed.1, refl),
  λ p stands sane count.
      let h = handed.2 p stands in
      let still = quiet handed.0 handed.1 in
      (h.0, sane-beside p handed.0 sane still.0 (λ k. still.1 (history p) k) h.2),
)

quiet-at : (i j : Input) → i ≡ j → IsUnheard j × ((h : List Input) (k : ℕ) → IsApart h k j) → IsUnheard i × ((h : List Input) (k : ℕ) → IsApart h k i)
quiet-at i j is quiet = subst (λ x. IsUnheard x × ((h : List Input) (k : ℕ) → IsApart h k x)) (sym is) quiet

pub at-quiet : (n : ℕ) (i : Input) → IsHeardAs (steps.At n) i → IsUnheard i × ((h : List Input) (k : ℕ) → IsApart h k i)
at-quiet n i heard = quiet-at i (At n) heard (tt, λ h k. tt)

pub page-quiet : (page : steps.PageStep) (i : Input) → IsHeardAs (steps.Page page) i → IsUnheard i × ((h : List Input) (k : ℕ) → IsApart h k i)
page-quiet page i heard = quiet-at i (OfPage heard.0) heard.2 (tt, λ h k. tt)

-- ---- any step

-- the state corresponds to the past with the step, for every past that it corresponded to
abbrev pub Does : Ends → Ends → PairInput → Type 0
Does ends new q = (p : List Deed) → StandsFor ends p → IsSane p → CanCount p → Both new (with_step p q)

-- a step that is heard as this input
pub step-done : {E : Type 0} (r : Result (Unit {0}) E) (ends new : Ends) (x : PairStep) (q : PairInput)
    → IsHeardAsPair x q → ((p : List Deed) → StandsFor ends p → IsSane p → CanCount p → OnOk r (Both new (with_step p q)))
    → IfOk r (λ u. (q : PairInput) × IsHeardAsPair x q × ((p : List Deed) → StandsFor ends p → IsSane p → CanCount p → Both new (with_step p q)))
step-done (Err e) ends new x q heard done = tt
step-done (Ok u) ends new x q heard done = (q, heard, done)

-- a step of the code is described by its variant
pub of-step : {S E : Type 0} (r : Result S E) (x y : PairStep) (P : PairInput → Type 0)
    → x ≡ y → IfOk r (λ u. (q : PairInput) × IsHeardAsPair y q × P q) → IfOk r (λ u. (q : PairInput) × IsHeardAsPair x q × P q)
of-step r x y P is done = subst (λ z. IfOk r (λ u. (q : PairInput) × IsHeardAsPair z q × P q)) (sym is) done

-- ---- the accounts

-- each link of the code leaves the account of its link
pub rows-accounts : (f : ℕ → Link) (rows : List (ℕ × LinkEnd))
    → RowsAgree rows f → map account_in_hand (map (λ row. row.1) rows) ≡ map (λ l. account l (f l)) (numbers rows)
rows-accounts f [] agree = refl
rows-accounts f (row ∷ rows) agree = ap₂ (λ p ps. p ∷ ps) (one row.1 row.0 (f row.0) agree.0) (rows-accounts f rows agree.1)
  where
    one : (end : LinkEnd) (l : ℕ) (v : Link) → Agrees end l v → account_in_hand end ≡ account l v
    one end l v a = rw (a.number, a.entries, a.events, a.not_sent) refl

-- ---- a list of steps

-- one more step is heard
pub heard-more : (xs : List PairStep) (inputs : List PairInput) (x : PairStep) (q : PairInput)
    → AreHeardAs xs inputs → IsHeardAsPair x q → AreHeardAs (xs ++ x ∷ []) (inputs ++ q ∷ [])
heard-more [] [] x q all is = (is, tt)
heard-more [] (p ∷ inputs) x q all is = absurd all
heard-more (y ∷ xs) [] x q all is = absurd all
heard-more (y ∷ xs) (p ∷ inputs) x q all is = (all.0, heard-more xs inputs x q all.1 is)

-- as many inputs as steps
pub heard-length : (xs : List PairStep) (inputs : List PairInput) → AreHeardAs xs inputs → length inputs ≡ length xs
heard-length [] [] all = refl
heard-length [] (p ∷ inputs) all = absurd all
heard-length (y ∷ xs) [] all = absurd all
heard-length (y ∷ xs) (p ∷ inputs) all = ap suc (heard-length xs inputs all.1)

-- the past with one more
pub past_after-more : (past : List Deed) (inputs : List PairInput) (q : PairInput) → past_after past (inputs ++ q ∷ []) ≡ with_step (past_after past inputs) q
past_after-more past [] q = refl
past_after-more past (p ∷ inputs) q = past_after-more (with_step past p) inputs q

-- a step counts at most one command that was not sent
counts-one : (past : List Deed) (q : PairInput) (l : ℕ) → unsent (with_step past q) l ≤ suc (unsent past l)
counts-one past (Opens k resource) l = opening (is_link past k) (is_connected (Handed (Open k resource) ∷ past) k && not (is_connected past k))
  where
    opening : (a b : Bool)
        → unsent (if a then past else if b then Linked k ∷ Handed (Open k resource) ∷ past else Handed (Open k resource) ∷ past) l ≤ suc (unsent past l)
    opening true b = omega arith
    opening false true = omega arith
    opening false false = omega arith
counts-one past (Sends k c) l = sending (not (is_whole past k)) (may_send (link past k) c)
  where
    counted : (b : Bool) → (if b then suc (unsent past l) else unsent past l) ≤ suc (unsent past l)
    counted true = omega arith
    counted false = omega arith

    sending : (a b : Bool) → unsent (if a then past else if b then Sent k c ∷ past else Unsent k ∷ past) l ≤ suc (unsent past l)
    sending true b = omega arith
    sending false true = omega arith
    sending false false = counted (l == k)
counts-one past (Up k) l = up (is_whole past k) (slice_get (commands past k) (ups past k))
  where
    up : (a : Bool) (o : Option Sending) → unsent (if a then taken_up past k o else past) l ≤ suc (unsent past l)
    up false o = omega arith
    up true None = omega arith
    up true (Some c) = omega arith
counts-one past (Down k) l = down (is_whole past k && nat_lt (downs past k) (length (texts past k)))
  where
    down : (a : Bool) → unsent (if a then TakenDown k ∷ past else past) l ≤ suc (unsent past l)
    down true = omega arith
    down false = omega arith
counts-one past (Cuts k) l = cutting (is_whole past k) (is_connected past k)
  where
    cutting : (a b : Bool) → unsent (if a then Cut k ∷ (if b then Handed (Drop k) ∷ past else past) else past) l ≤ suc (unsent past l)
    cutting false b = omega arith
    cutting true true = omega arith
    cutting true false = omega arith
counts-one past (Direct i) l = omega arith

counts-after : (past : List Deed) (inputs : List PairInput) (l : ℕ) → unsent (past_after past inputs) l ≤ unsent past l + length inputs
counts-after past [] l = omega arith
counts-after past (q ∷ inputs) l =
    let one = counts-one past q l in
    let more = counts-after (with_step past q) inputs l in
    omega (arith, one, more)

-- fewer steps than a list can have: each link can count one more
pub can-count : (xs : List PairStep) (inputs : List PairInput) → AreHeardAs xs inputs → length xs < 2 ^ 63 → CanCount (past_after [] inputs)
can-count xs inputs heard few = λ l. (let n = counts-after [] inputs l in let m = heard-length xs inputs heard in omega (arith, n, m, few))

-- the steps so far are a beginning of all, and so are they with one more
pub front-more : {A : Type 0} (all xs : List A) (x : A)
    → take (length xs) all ≡ xs → length xs < length all → x ≡ get_or all (length xs) x → take (length (xs ++ x ∷ [])) all ≡ xs ++ x ∷ []
front-more [] xs x front within is = absurd (omega (arith, within))
front-more (y ∷ all) [] x front within is = ap (λ z. z ∷ []) (sym is)
front-more (y ∷ all) (z ∷ xs) x front within is = ap₂ (λ w ws. w ∷ ws) (head front) (front-more all xs x (tail front) (omega (arith, within)) is)
  where
    head : y ∷ take (length xs) all ≡ z ∷ xs → y ≡ z
    head e = cc e

    tail : y ∷ take (length xs) all ≡ z ∷ xs → take (length xs) all ≡ xs
    tail e = cc e

-- a fault that is returned early is that fault
fault-of : {A : Type 0} → RemoteFault → Result A RemoteFault → RemoteFault
fault-of d (Ok x) = d
fault-of d (Err e) = e

pub worn-is : {A : Type 0} (r : Result A RemoteFault) (e : RemoteFault)
    → IsErrAnd r (λ f. f ≡ e) → IsErrOf r WornOut → (let q : Result (Unit {0}) RemoteFault = Err e in IsErrOf q WornOut)
unfolding fault-of
worn-is (Ok x) e is worn = absurd is
worn-is (Err f) e is worn = ap (λ g. Err g) (sym is ∙ ap (fault-of e) worn)
