-- How the rows of the live contexts change where a value is held, and where handles are held no longer.
use Rattle.std.proofs.Common.{◌≡◌, ◌∙◌, ℕ, Bool, true, false, List, [], ◌∷◌, map, refl, sym, ap, arith}
use Rattle.std.specs.Prelude.{◌==◌, not, ◌&&◌, ◌||◌, if◌then◌else◌, filter}
use Rattle.std.specs.List.{list_any}
use Rattle.std.proofs.lemmas.Bool.Decides.{nat_tests, Decides-eqb}
use Rattle.bidi_tree.specs.Node.{Node}
use Rattle.bidi_handles.specs.declared.id.IdKind.TheVariants.{Context, Handle}
use Rattle.bidi_contexts.specs.Accepted.{AreAccepted}
use Rattle.bidi_contexts.specs.Acts.{Act, Ran, Disowned, Ending, next_number}
use Rattle.bidi_contexts.specs.Contexts.{is_gone, is_alive, tree_order}
use Rattle.bidi_handles.specs.Ids.{has_id}
use Rattle.bidi_contexts.specs.Realms.{realm_of, value_of, handles_of}
use Rattle.bidi_contexts.specs.ContextRows.{row_at, rows, changed, held_in, without_in}
use Rattle.bidi_contexts.proofs.AcceptedLemmas.{alive-above, alive-below}
use Rattle.bidi_contexts.proofs.RealmLemmas.{realm-one}
use Rattle.bidi_contexts.proofs.MoveLemmas.{changed-rows}
use Rattle.bidi_contexts.proofs.TreeLemmas.{order-apart, order-has}

-- ---- one realm, one context

-- live contexts that share a realm are one
pub alive-one : (past : List Act) (c d : ℕ) → is_alive past c ≡ true → is_alive past d ≡ true → realm_of past c ≡ realm_of past d → c ≡ d
alive-one past c d a b same =
    let n = next_number past Context in
    realm-one past c d (alive-above c n (is_gone past c) a) (alive-below c n (is_gone past c) a) (alive-above d n (is_gone past d) b)
    (alive-below d n (is_gone past d) b) same

-- so a test of realms is one of contexts
realm-test : (past : List Act) (a c : ℕ) → is_alive past a ≡ true → is_alive past c ≡ true → (realm_of past a == realm_of past c) ≡ (c == a)
realm-test past a c x y = by (realm_of past a) (realm_of past c) (λ same. alive-one past c a y x (sym same)) (λ same. ap (realm_of past) (sym same))
  where
    by : (q r : ℕ) → (q ≡ r → c ≡ a) → (c ≡ a → q ≡ r) → (q == r) ≡ (c == a)
    by q r to from = grind (arith, nat_tests, to, from)

-- ---- a value is held

ran-step : (past : List Act) (a c : ℕ) (ending : Ending) (b : Bool) → (realm_of past a == realm_of past c) ≡ b
    → row_at (Ran (realm_of past a) ending true ∷ past) c ≡ (if b then held_in (next_number past Handle, value_of ending) (row_at past c) else row_at past c)
ran-step past a c ending true is = rw is refl
ran-step past a c ending false is = rw is refl

-- the row of its context has the handle, and no other row changes
pub rows-ran : (past : List Act) (a : ℕ) (ending : Ending) → AreAccepted past → is_alive past a ≡ true
    → rows (Ran (realm_of past a) ending true ∷ past) ≡ changed a (held_in (next_number past Handle, value_of ending)) (rows past)
rows-ran past a ending acc alive =
    sym (changed-rows (held_in (next_number past Handle, value_of ending)) a (row_at past)
    (row_at (Ran (realm_of past a) ending true ∷ past)) (tree_order past) (order-apart past acc) (λ c. refl)
    (λ c there. ran-step past a c ending (c == a) (realm-test past a c alive (sym (order-has past acc c) ∙ there))))

-- ---- handles are held no longer

-- what has the number of one of those that pass, passes
listed : (p : ℕ → Bool) (m : ℕ) (hs : List (ℕ × Node)) → list_any (λ n. n == m) (map (λ h. h.0) (filter (λ h. p h.0) hs)) ≡ (p m && list_any (λ h. h.0 == m) hs)
listed p m [] = none (p m)
  where
    none : (b : Bool) → false ≡ (b && false)
    none true = refl
    none false = refl
listed p m (h ∷ hs) = step (listed p m hs) (p h.0) refl
  where
    step : list_any (λ n. n == m) (map (λ h. h.0) (filter (λ h. p h.0) hs)) ≡ (p m && list_any (λ h. h.0 == m) hs) → (b : Bool) → p h.0 ≡ b
        → list_any (λ n. n == m) (map (λ h. h.0) (if b then h ∷ filter (λ h. p h.0) hs else filter (λ h. p h.0) hs))
        ≡ (p m && (h.0 == m || list_any (λ h. h.0 == m) hs))
    step ih true is = let here : h.0 ≡ m → p m ≡ true = (λ e. sym (ap p e) ∙ is) in grind (arith, nat_tests, ih, here)
    step ih false is = let here : h.0 ≡ m → p m ≡ false = (λ e. sym (ap p e) ∙ is) in grind (arith, nat_tests, ih, here)

-- so those are left that do not
left-out : (p : ℕ → Bool) (all hs : List (ℕ × Node)) → ((h : ℕ × Node) → list_any (λ g. g.0 == h.0) hs ≡ true → list_any (λ g. g.0 == h.0) all ≡ true)
    → filter (λ h. not (list_any (λ n. n == h.0) (map (λ g. g.0) (filter (λ g. p g.0) all)))) hs ≡ filter (λ h. not (p h.0)) hs
left-out p all [] among = refl
left-out p all (h ∷ hs) among =
    let rest = left-out p all hs (λ g e. among g (later (h.0 == g.0) (list_any (λ k. k.0 == g.0) hs) e)) in
    let here = listed p h.0 all in
    let there = among h (first h.0 (list_any (λ k. k.0 == h.0) hs)) in
    step (p h.0) (list_any (λ g. g.0 == h.0) all) (here) there rest
  where
    later : (b c : Bool) → c ≡ true → (b || c) ≡ true
    later true c e = refl
    later false c e = e

    first : (n : ℕ) (b : Bool) → (n == n || b) ≡ true
    first n b = grind (arith, nat_tests)

    step : (b c : Bool) → list_any (λ n. n == h.0) (map (λ g. g.0) (filter (λ g. p g.0) all)) ≡ (b && c) → c ≡ true
        → filter (λ h. not (list_any (λ n. n == h.0) (map (λ g. g.0) (filter (λ g. p g.0) all)))) hs ≡ filter (λ h. not (p h.0)) hs
        → filter (λ h. not (list_any (λ n. n == h.0) (map (λ g. g.0) (filter (λ g. p g.0) all)))) (h ∷ hs)
        ≡ (if not b then h ∷ filter (λ h. not (p h.0)) hs else filter (λ h. not (p h.0)) hs)
    step true true is there rest = rw is rest
    step false true is there rest = rw is (ap (λ hs. h ∷ hs) rest)
    step b false is there rest = absurd (cc)

disowned-step : (past : List Act) (a c : ℕ) (ids : List (List ℕ)) (b : Bool) → (c == a) ≡ b → (realm_of past a == realm_of past c) ≡ b
    → row_at (Disowned (realm_of past a) ids ∷ past) c
    ≡ (if b then without_in (map (λ h. h.0) (filter (λ h. has_id ids h.0) (handles_of past (realm_of past a)))) (row_at past c) else row_at past c)
disowned-step past a c ids true one is =
    let same = (Decides-eqb c a).0 one in
    rw (is, ← same) (ap (λ hs. record (row_at past c) { handles = hs })
    (sym (left-out (has_id ids) (handles_of past (realm_of past c)) (handles_of past (realm_of past c)) (λ h e. e))))
disowned-step past a c ids false one is = rw is refl

-- the row of its context is without them, and no other row changes
pub rows-disowned : (past : List Act) (a : ℕ) (ids : List (List ℕ)) → AreAccepted past → is_alive past a ≡ true
    → rows (Disowned (realm_of past a) ids ∷ past)
    ≡ changed a (without_in (map (λ h. h.0) (filter (λ h. has_id ids h.0) (handles_of past (realm_of past a))))) (rows past)
rows-disowned past a ids acc alive =
    let numbers = map (λ h. h.0) (filter (λ h. has_id ids h.0) (handles_of past (realm_of past a))) in
    sym (changed-rows (without_in numbers) a (row_at past) (row_at (Disowned (realm_of past a) ids ∷ past)) (tree_order past) (order-apart past acc) (λ c. refl)
    (λ c there. disowned-step past a c ids (c == a) refl (realm-test past a c alive (sym (order-has past acc c) ∙ there))))
