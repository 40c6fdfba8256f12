-- Each reply on a link, and each fate that it gives, is what the machine sends for its command, at one place of the past.
use Rattle.std.proofs.Common.{◌≡◌, ◌∙◌, ◌<◌, ◌^◌, ℕ, suc, Bool, true, false, true≢false, cond, List, [], ◌∷◌, ◌++◌, map, take, drop}
use Rattle.std.proofs.Common.{find, Contains, Option, Some, None, ⊎_elim, refl, sym, ap, subst, take-append-drop, arith}
use Rattle.std.specs.Prelude.{slice_get, reverse}
use Rattle.std.specs.List.{AllByRecursion}
use Rattle.std.proofs.lemmas.Option.{same_Some, slice_get_within}
use Rattle.std.proofs.lemmas.List.Elements.{Contains-append_left, Contains-append_cases}
use Rattle.bidi_tree.specs.Node.{Node}
use Rattle.bidi_messages.specs.Reading.{IsMessageText}
use Rattle.bidi_messages.specs.Verdict.{Accepted}
use Rattle.bidi_messages.specs.contracts.message.MessageShape.TheImpl.{ghosts}
use Rattle.bidi_remote.specs.Machine.History.{Input, Heard}
use Rattle.bidi_remote.specs.Replies.{IsEventText}
use Rattle.bidi_remote.specs.Machine.Sent.{out, answers, texts_on}
use Rattle.bidi_ledger.specs.Pairing.{Sending, Deed, Handed, TakenUp, history, is_cut, commands, ups, downs, texts}
use Rattle.bidi_ledger.specs.Link.{Link, Fate, link, messages, is_reply_to, fate_by, fate_with, tree_of_sending}
use Rattle.bidi_link.specs.Spoken.{IsSound, AreSpoken}
use Rattle.bidi_link.specs.Stands.{IsFrom, AreFrom}
use Rattle.bidi_link.specs.Outcomes.{is_reply, IsOutcome, AreOutcomes}
use Rattle.bidi_link.proofs.PastLemmas.{texts-handed}
use Rattle.bidi_link.proofs.SpokenLemmas.{spoken-events, get-first}
use Rattle.bidi_link.proofs.LinkReplyLemmas.{tree_in, reply_among}

-- ---- to which command a text replies

-- on a sound link, to one that was taken up
reply-taken : (v : Link) (p : ℕ) (s : List ℕ) → IsSound v → Contains v.texts s → is_reply_to (suc p) (tree_in s) ≡ true → p < v.ups
reply-taken v p s sound among reply =
    (reply_among v.commands among.0 p s sound.spoken (omega (arith, sound.taken, sound.ids)) sound.read_back among.1 among.2 reply).1

-- among events, to none
reply-none : (p : ℕ) (s : List ℕ) (ts : List (List ℕ)) → AllByRecursion IsEventText ts
    → AllByRecursion (IsMessageText ghosts.shape) ts → Contains ts s → is_reply_to (suc p) (tree_in s) ≡ true → ⊥
reply-none p s ts events reads among reply =
    let place = reply_among [] among.0 p s (spoken-events [] 0 ts events) (omega arith) reads among.1 among.2 reply in
    omega (arith, place.1)

-- ---- one deed more

from-more : (d : Deed) (past : List Deed) {l id : ℕ} {c : Sending} {s : List ℕ} → IsFrom past l id c s → IsFrom (d ∷ past) l id c s
from-more d past f = record { newer = d ∷ f.newer; older = f.older; place = ap (λ ds. d ∷ ds) f.place; sent = f.sent }

-- one that leaves the texts and the commands of the link
pub from-still : (d : Deed) (past : List Deed) (l : ℕ)
    → texts (d ∷ past) l ≡ texts past l → commands (d ∷ past) l ≡ commands past l → AreFrom past l → AreFrom (d ∷ past) l
from-still d past l still same from = λ p c s among at reply.
    from-more d past (from p c s (subst (λ ts. Contains ts s) still among) (subst (λ cs. slice_get cs p ≡ Some c) same at) reply)

-- one that hands nothing on, and may add commands to the link
pub from-sent : (d : Deed) (past : List Deed) (l : ℕ) (more : List Sending) → history (d ∷ past) ≡ history past
    → commands (d ∷ past) l ≡ commands past l ++ more → IsSound (link past l) → AreFrom past l → AreFrom (d ∷ past) l
from-sent d past l more still sent sound from = λ p c s among at reply.
    let before : Contains (texts past l) s = subst (λ h. Contains (texts_on l (answers (reverse h))) s) still among in
    let taken = reply-taken (link past l) p s sound before reply in
    from-more d past (from p c s before
    (get-first (commands past l) more p c (omega (arith, taken, sound.taken)) (subst (λ cs. slice_get cs p ≡ Some c) sent at)) reply)

-- one at which the link gets events
pub from-events : (past : List Deed) (i : Input) (l : ℕ)
    → AreFrom past l → AllByRecursion (IsMessageText ghosts.shape) (texts_on l (out (history past) i))
    → AllByRecursion IsEventText (texts_on l (out (history past) i)) → AreFrom (Handed i ∷ past) l
from-events past i l from reads events = λ p c s among at reply.
    let new = texts_on l (out (history past) i) in
    ⊎_elim (λ before. from-more (Handed i) past (from p c s before at reply)) (λ is. absurd (reply-none p s new events reads is reply))
    (Contains-append_cases (texts past l) new s (subst (λ ts. Contains ts s) (texts-handed past i l) among))

-- one by which the link takes a command up, and at which it may get the reply
pub from-up : (past : List Deed) (l : ℕ) (c : Sending) → IsSound (link past l) → slice_get (commands past l) (ups past l) ≡ Some c → AreFrom past l
    → (let i = Heard l (Accepted (tree_of_sending (suc (ups past l)) c)) in AreSpoken (commands past l) (ups past l) (suc (ups past l))
    (texts_on l (out (history past) i)) → AllByRecursion (IsMessageText ghosts.shape) (texts_on l (out (history past) i))
    → AreFrom (Handed i ∷ TakenUp l ∷ past) l)
from-up past l c sound at from spoken reads = λ p d s among found reply.
    ⊎_elim (λ before. from-more (Handed i) (TakenUp l ∷ past) (from-more (TakenUp l) past (from p d s before found reply))) (λ is. now p d s is found reply)
    (Contains-append_cases (texts past l) new s (subst (λ ts. Contains ts s) (texts-handed (TakenUp l ∷ past) i l) among))
  where
    u : ℕ
    u = ups past l

    i : Input
    i = Heard l (Accepted (tree_of_sending (suc (ups past l)) c))

    new : List (List ℕ)
    new = texts_on l (out (history past) i)

    small : suc (ups past l) < 2 ^ 53
    small = let within = slice_get_within (commands past l) (ups past l) c at in omega (arith, within, sound.ids)

    now : (p : ℕ) (d : Sending) (s : List ℕ) → Contains new s → slice_get (commands past l) p ≡ Some d
        → is_reply_to (suc p) (tree_in s) ≡ true → IsFrom (Handed i ∷ TakenUp l ∷ past) l (suc p) d s
    now p d s is found reply =
        let place = reply_among (commands past l) is.0 p s spoken small reads is.1 is.2 reply in
        let here : ups past l ≡ p = omega (arith, place.0, place.1) in
        let same : c ≡ d = same_Some c d (sym at ∙ (ap (slice_get (commands past l)) here ∙ found)) in
        let own : IsFrom (Handed i ∷ TakenUp l ∷ past) l (suc (ups past l)) c s = record { newer = []; older = TakenUp l ∷ past; place = refl; sent = is } in
        subst (λ x. IsFrom (Handed i ∷ TakenUp l ∷ past) l (suc p) x s) same (subst (λ n. IsFrom (Handed i ∷ TakenUp l ∷ past) l (suc n) c s) here own)

-- ---- fates

-- the tree of one of these texts, which passes a test
record IsFound (test : Node → Bool) (ts : List (List ℕ)) (t : Node) : Type 0 where
  of : List ℕ
  among : Contains ts of
  is : t ≡ tree_in of
  passes : test (tree_in of) ≡ true

found_among : (test : Node → Bool) (ts : List (List ℕ)) (t : Node) → find test (map tree_in ts) ≡ Some t → IsFound test ts t
found_among test [] t found = cc
found_among test (u ∷ us) t found = by_case (test (tree_in u)) refl (found_among test us t)
  where
    by_case : (b : Bool) → test (tree_in u) ≡ b → (find test (map tree_in us) ≡ Some t → IsFound test us t) → IsFound test (u ∷ us) t
    by_case true passes later =
        let first : Some (tree_in u) ≡ Some t = sym (ap (λ b. cond b (Some (tree_in u)) (find test (map tree_in us))) passes) ∙ found in
        record { of = u; among = (0, omega arith, refl); is = sym (same_Some (tree_in u) t first); passes = passes }
    by_case false passes later =
        let f = later (sym (ap (λ b. cond b (Some (tree_in u)) (find test (map tree_in us))) passes) ∙ found) in
        let at = f.among in
        record { of = f.of; among = (suc at.0, omega (arith, at.1), at.2); is = f.is; passes = f.passes }

-- the fate that a reply makes is that of its text
pub outcomes : (past : List Deed) (l : ℕ) → AreFrom past l → AreOutcomes past l
outcomes past l from = λ k c at settled. by_reply k c at (find (is_reply_to (suc k)) (messages (link past l))) (is_cut past l) refl settled
  where
    by_reply : (k : ℕ) (c : Sending)
        → slice_get (commands past l) k ≡ Some c → (o : Option Node) (cut : Bool) → find (is_reply_to (suc k)) (messages (link past l)) ≡ o
        → is_reply (fate_with o cut) ≡ true → IsOutcome past l (suc k) c (fate_with o cut)
    by_reply k c at None true found settled = absurd (true≢false (sym settled))
    by_reply k c at None false found settled = absurd (true≢false (sym settled))
    by_reply k c at (Some t) cut found settled =
        let f = found_among (is_reply_to (suc k)) (take (downs past l) (texts past l)) t found in
        let among = subst (λ ts. Contains ts f.of) (take-append-drop (downs past l) (texts past l))
        (Contains-append_left (take (downs past l) (texts past l)) (drop (downs past l) (texts past l)) f.of f.among) in
        let by = from k c f.of among at f.passes in
        record { newer = by.newer; older = by.older; place = by.place; reply = f.of; sent = by.sent; to = f.passes; by_it = ap {B = Fate} fate_by f.is }
