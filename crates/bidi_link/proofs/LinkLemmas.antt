-- The state of a link of the code as texts are added to its queues and taken from them.
use Rattle.std.proofs.Common.{◌≡◌, ◌∙◌, ◌≤◌, ℕ, suc, zero, Bool, true, false, List, [], ◌∷◌, ◌++◌, map, length, take, drop, filter, find}
use Rattle.std.proofs.Common.{Option, Some, None, option_to_list, unwrap_or, Result, Ok, Err, refl, sym, ap, ap₂, subst, arith}
use Rattle.std.specs.Prelude.{slice_get, if◌then◌else◌, IfNone, IfSome, OnOk}
use Rattle.bidi_ledger.specs.Pairing.{Sending}
use Rattle.std.proofs.lemmas.List.{take-append-le}
use Rattle.bidi_tree.specs.Node.{null}
use Rattle.bidi_tree.specs.Text.{tree_of}
use Rattle.bidi_ledger.specs.Link.{Link, Fate, Entry, Received, is_event, is_reply_to, event_in, fate_with, fate_of, entries_from, events}
use Rattle.bidi_link.specs.Rows.{IsUpward, AreUpward, next_up, with_texts}

-- ---- cases

pub if_none : {A : Type 0} {P : Type 0} (r : Option A) → (r ≡ None → P) → IfNone r P
if_none None f = f refl
if_none (Some x) f = tt

pub if_some : {A : Type 0} {P : A → Type 0} (r : Option A) → ((x : A) → r ≡ Some x → P x) → IfSome r P
if_some None f = tt
if_some (Some x) f = f x refl

pub one_ok : {E : Type 0} {A C : Type 0} (r : Result (Unit {0}) E) → OnOk r A → (A → C) → OnOk r C
one_ok (Ok x) a f = f a
one_ok (Err e) a f = tt

pub both_ok : {E : Type 0} {A B C : Type 0} (r : Result (Unit {0}) E) → OnOk r A → OnOk r B → (A → B → C) → OnOk r C
both_ok (Ok x) a b f = f a b
both_ok (Err e) a b f = tt

-- no list is its own rest
own_rest : {A : Type 0} (xs : List A) → xs ≡ drop 1 xs → xs ≡ []
own_rest [] e = refl
own_rest (x ∷ xs) e = let short : suc (length xs) ≡ length xs = ap length e in absurd (omega (arith, short))

-- if none is taken from a queue, the queue was empty and still is
pub none_taken : {A : Type 0} (r : Option A) (old new : List A) → old ≡ option_to_list r ++ new → new ≡ drop 1 old → r ≡ None → (old ≡ []) × (new ≡ [])
none_taken r old new items rest is =
    let e : old ≡ new = items ∙ ap (λ o. option_to_list o ++ new) is in
    let empty = own_rest old (e ∙ rest) in
    (empty, sym e ∙ empty)

-- if one is taken, it was the first
pub one_taken : {A : Type 0} (r : Option A) (old new : List A) (x : A) → old ≡ option_to_list r ++ new → r ≡ Some x → old ≡ x ∷ new
one_taken r old new x items is = items ∙ ap (λ o. option_to_list o ++ new) is

-- ---- the way up

none_up : (id u : ℕ) (cs : List Sending) → AreUpward id (drop u cs) [] → slice_get cs u ≡ None
none_up id zero [] up = refl
none_up id zero (c ∷ cs) up = absurd up
none_up id (suc u) [] up = refl
none_up id (suc u) (c ∷ cs) up = none_up id u cs up

some_up : (id u : ℕ) (cs : List Sending) (s : List ℕ) (ss : List (List ℕ)) → AreUpward id (drop u cs) (s ∷ ss)
    → (c : Sending) × (slice_get cs u ≡ Some c) × IsUpward id c s × AreUpward (suc id) (drop (suc u) cs) ss
some_up id zero [] s ss up = absurd up
some_up id zero (c ∷ cs) s ss up = (c, refl, up.0, up.1)
some_up id (suc u) [] s ss up = absurd up
some_up id (suc u) (c ∷ cs) s ss up = some_up id u cs s ss up

cut_or : (b : Bool) (o : Option Sending) → (b ≡ false → o ≡ None) → (if b then None else o) ≡ None
cut_or true o f = refl
cut_or false o f = f refl

-- with no text on the way up no command is taken up next
pub next_up-none : (v : Link) (ss : List (List ℕ)) → (v.is_cut ≡ false → AreUpward (suc v.ups) (drop v.ups v.commands) ss) → ss ≡ [] → next_up v ≡ None
next_up-none v ss up none =
    cut_or v.is_cut (slice_get v.commands v.ups)
    (λ uncut. none_up (suc v.ups) v.ups v.commands (subst (AreUpward (suc v.ups) (drop v.ups v.commands)) none (up uncut)))

-- the first text on the way up is that of the command that is taken up next, and the others follow
pub next_up-some : (v : Link) (s : List ℕ) (ss : List (List ℕ)) → v.is_cut ≡ false → AreUpward (suc v.ups) (drop v.ups v.commands) (s ∷ ss)
    → (c : Sending) × (next_up v ≡ Some c) × IsUpward (suc v.ups) c s × AreUpward (suc (suc v.ups)) (drop (suc v.ups) v.commands) ss
next_up-some v s ss uncut up =
    let p = some_up (suc v.ups) v.ups v.commands s ss up in
    (p.0, ap (λ b. if b then None else slice_get v.commands v.ups) uncut ∙ p.1, p.2, p.3)

-- a link that carries something was not cut
pub uncut : {A : Type 0} (b : Bool) (x : A) (xs : List A) → (b ≡ true → x ∷ xs ≡ []) → b ≡ false
uncut true x xs empty = let e = empty refl in cc
uncut false x xs empty = refl

-- ---- entries

-- the entries depend only on the fates
pub entries-same : (k : ℕ) (v w : Link) (cs : List Sending) → ((id : ℕ) → fate_of v id ≡ fate_of w id) → entries_from k v cs ≡ entries_from k w cs
entries-same k v w [] same = refl
entries-same k v w (c ∷ cs) same =
    ap₂ {B = List Entry} (λ f es. record { id = k; method = c.method; fate = f } ∷ es) (same k) (entries-same (suc k) v w cs same)

-- texts that are not taken down yet change no fate
pub fate-texts : (v : Link) (ts : List (List ℕ)) (id : ℕ) → v.downs ≤ length v.texts → fate_of v id ≡ fate_of (with_texts v ts) id
fate-texts v ts id within =
    ap {B = Fate} (λ us. fate_with (find (is_reply_to id) (map (λ s. unwrap_or (tree_of s) null) us)) v.is_cut)
    (sym (take-append-le v.downs v.texts ts within))

-- and are no events that were received
pub events-texts : (v : Link) (ts : List (List ℕ)) → v.downs ≤ length v.texts → events v ≡ events (with_texts v ts)
events-texts v ts within =
    ap {B = List Received} (λ us. map event_in (filter is_event (map (λ s. unwrap_or (tree_of s) null) us)))
    (sym (take-append-le v.downs v.texts ts within))

-- one more text on the way down
pub drop-append : {A : Type 0} (d : ℕ) (xs ys : List A) → d ≤ length xs → drop d (xs ++ ys) ≡ drop d xs ++ ys
drop-append zero xs ys within = refl
drop-append (suc d) [] ys within = absurd (omega (arith, within))
drop-append (suc d) (x ∷ xs) ys within = drop-append d xs ys (omega (arith, within))

-- a place with something after it
pub dropped : {A : Type 0} (d : ℕ) (xs : List A) (x : A) (ys : List A)
    → drop d xs ≡ x ∷ ys → (drop (suc d) xs ≡ ys) × (take (suc d) xs ≡ take d xs ++ x ∷ []) × (suc d ≤ length xs)
dropped zero [] x ys is = cc
dropped zero (z ∷ xs) x ys is = (let e : xs ≡ ys = cc in e, let e : z ≡ x = cc in ap (λ w. w ∷ []) e, omega arith)
dropped (suc d) [] x ys is = cc
dropped (suc d) (z ∷ xs) x ys is = let p = dropped d xs x ys is in (p.0, ap (λ l. z ∷ l) p.1, omega (arith, p.2))

-- a place with nothing after it
pub all_dropped : {A : Type 0} (d : ℕ) (xs : List A) → drop d xs ≡ [] → length xs ≤ d
all_dropped zero [] is = omega arith
all_dropped zero (x ∷ xs) is = cc
all_dropped (suc d) [] is = omega arith
all_dropped (suc d) (x ∷ xs) is = omega (arith, all_dropped d xs is)
