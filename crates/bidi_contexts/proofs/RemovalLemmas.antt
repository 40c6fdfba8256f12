-- What a subtree has: the live contexts at and below its root.
use Rattle.std.proofs.Common.{◌≡◌, ◌+◌, ◌≤◌, ◌<◌, ℕ, zero, suc, Bool, true, false, List, [], ◌∷◌, refl, sym, ◌∙◌, ap, subst, arith, cond, inl, inr, ◌⊎◌}
use Rattle.std.specs.Prelude.{◌==◌, nat_eq, ◌&&◌, ◌||◌, if◌then◌else◌, filter, flat_map, Option, Some, None}
use Rattle.std.specs.List.{list_any}
use Rattle.std.specs.Option.{option_eq}
use Rattle.std.proofs.lemmas.Bool.Decides.{nat_tests, Decides-eqb}
use Rattle.std.proofs.lemmas.List.Folds.{list_any-append}
use Rattle.bidi_handles.specs.declared.id.IdKind.TheVariants.{Context}
use Rattle.bidi_contexts.specs.Acts.{Act, Framed, given, next_number}
use Rattle.bidi_contexts.specs.Contexts.{parent_of, level_of, is_under, is_gone, is_alive, up_to, contexts, children_of, subtree_within, subtree_of}
use Rattle.bidi_contexts.specs.Accepted.{AreAccepted}
use Rattle.bidi_handles.proofs.ListLemmas.{agree}
use Rattle.bidi_contexts.proofs.AcceptedLemmas.{act-sound, alive-above, alive-below, parent-born, under-parent}
use Rattle.bidi_contexts.proofs.AcceptedLemmas.{levels-accepted, level-child, parents-alive}
use Rattle.bidi_contexts.proofs.MemberLemmas.{has-filter, any-up-to}

-- ---- lists

-- the live contexts are those that are alive
pub any-contexts : (past : List Act) (c : ℕ) → list_any (λ d. d == c) (contexts past) ≡ is_alive past c
any-contexts past c = grind (arith, nat_tests, has-filter c (is_alive past) (up_to (given past Context)), any-up-to c (given past Context))

-- what each of two settles, one of them settles
or-split : (a b c : Bool) → (a ≡ true → c ≡ true) → (b ≡ true → c ≡ true) → (a || b) ≡ true → c ≡ true
or-split true b c left right e = left refl
or-split false b c left right e = right e

-- each of two may settle another
or-both : (a b c d : Bool) → (a ≡ true → c ≡ true) → (b ≡ true → d ≡ true) → (a || b) ≡ true → (c || d) ≡ true
or-both true b c d left right e = rw (left refl) refl
or-both false b true d left right e = refl
or-both false b false d left right e = right e

-- the second of two is enough
or-right : (a b : Bool) → b ≡ true → (a || b) ≡ true
or-right true b e = refl
or-right false b e = e

-- of two, each
pub and-both : (a b : Bool) → (a && b) ≡ true → (a ≡ true) × (b ≡ true)
and-both true true e = (refl, refl)
and-both true false e = absurd (cc)
and-both false b e = absurd (cc)

-- what stands in the lists of those that pass, end to end
any-flat : (f : ℕ → Bool) (g : ℕ → List ℕ) (t : Bool) (x : ℕ) (ys : List ℕ)
    → list_any f (flat_map g (cond t (x ∷ ys) ys)) ≡ ((t && list_any f (g x)) || list_any f (flat_map g ys))
any-flat f g true x ys = list_any-append f (g x) (flat_map g ys)
any-flat f g false x ys = refl

-- what each of these lists settles, all together settle
flat-back : (f r : ℕ → Bool) (g : ℕ → List ℕ) (b : Bool) (xs : List ℕ) → ((d : ℕ) → r d ≡ true → list_any f (g d) ≡ true → b ≡ true)
    → list_any f (flat_map g (filter r xs)) ≡ true → b ≡ true
flat-back f r g b [] each e = absurd (cc)
flat-back f r g b (x ∷ xs) each e =
    or-split (r x && list_any f (g x)) (list_any f (flat_map g (filter r xs))) b
    (λ here. let both = and-both (r x) (list_any f (g x)) here in each x both.0 both.1) (flat-back f r g b xs each)
    (sym (any-flat f g (r x) x (filter r xs)) ∙ e)

-- what stands in each list of g where another stands in that of h, stands in all of g together where that stands in all of h
flat-wide : (f k r : ℕ → Bool) (h g : ℕ → List ℕ) (xs : List ℕ) → ((d : ℕ) → r d ≡ true → list_any f (h d) ≡ true → list_any k (g d) ≡ true)
    → list_any f (flat_map h (filter r xs)) ≡ true → list_any k (flat_map g (filter r xs)) ≡ true
flat-wide f k r h g [] each e = absurd (cc)
flat-wide f k r h g (x ∷ xs) each e =
    any-flat k g (r x) x (filter r xs)
    ∙ or-both (r x && list_any f (h x)) (list_any f (flat_map h (filter r xs))) (r x && list_any k (g x)) (list_any k (flat_map g (filter r xs)))
    (λ here. let both = and-both (r x) (list_any f (h x)) here in let more = each x both.0 both.1 in rw (both.0, more) refl) (flat-wide f k r h g xs each)
    (sym (any-flat f h (r x) x (filter r xs)) ∙ e)

-- what stands in one of these lists stands in all together
flat-in : (f r : ℕ → Bool) (g : ℕ → List ℕ) (c : ℕ) (xs : List ℕ) → list_any (λ d. d == c) xs ≡ true → r c ≡ true → list_any f (g c) ≡ true
    → list_any f (flat_map g (filter r xs)) ≡ true
flat-in f r g c [] stands passes there = absurd (cc)
flat-in f r g c (x ∷ xs) stands passes there =
    any-flat f g (r x) x (filter r xs) ∙ or-both (x == c) (list_any (λ d. d == c) xs) (r x && list_any f (g x)) (list_any f (flat_map g (filter r xs)))
    (λ here. let same = (Decides-eqb x c).0 here in subst (λ d. (r d && list_any f (g d)) ≡ true) (sym same) (rw (passes, there) refl))
    (λ later. flat-in f r g c xs later passes there) stands

-- ---- one step of a subtree

-- the parent is that one
pub option-same : (o : Option ℕ) (a : ℕ) → option_eq nat_eq o (Some a) ≡ true → o ≡ Some a
option-same None a e = absurd (cc)
option-same (Some m) a e = ap (λ n. Some n) ((Decides-eqb m a).0 e)

-- and it is that one where it is the parent
pub same-option : (o : Option ℕ) (a : ℕ) → o ≡ Some a → option_eq nat_eq o (Some a) ≡ true
same-option None a e = absurd (cc)
same-option (Some m) a e = let same : m ≡ a = cc in (Decides-eqb m a).1 same

-- all that stands on the chain of a subtree's root stands on that of each context in it
pub subtree-under : (n : ℕ) (past : List Act) → AreAccepted past → (b a c : ℕ) → is_under past b a ≡ true
    → list_any (λ x. x == c) (subtree_within n past a) ≡ true → is_under past b c ≡ true
subtree-under zero past acc b a c up stands = absurd (cc)
subtree-under (suc n) past acc b a c up stands =
    or-split (a == c) (list_any (λ x. x == c) (flat_map (subtree_within n past) (children_of past a))) (is_under past b c)
    (λ here. let same = (Decides-eqb a c).0 here in subst (λ d. is_under past b d ≡ true) same up)
    (flat-back (λ x. x == c) (λ d. option_eq nat_eq (parent_of past d) (Some a)) (subtree_within n past) (is_under past b c) (contexts past)
    (λ d child later. subtree-under n past acc b d c (under-parent past acc b d a up (option-same (parent_of past d) a child)) later))
    stands

-- a level is above 0, also that of one more context
above-step : (b : Bool) (x y : ℕ) → 0 < y → 0 < (if b then suc x else y)
above-step true x y above = omega arith
above-step false x y above = above

-- every level is above 0
pub level-above : (past : List Act) (c : ℕ) → 0 < level_of past c
level-above [] c = omega arith
level-above (Framed p url ∷ past) c = above-step (c == next_number past Context) (level_of past p) (level_of past c) (level-above past c)
level-above (act ∷ past) c = level-above past c

-- a subtree has its root
root-in : (n : ℕ) (past : List Act) (c : ℕ) → 0 < n → list_any (λ x. x == c) (subtree_within n past c) ≡ true
root-in zero past c above = absurd (omega arith)
root-in (suc n) past c above = rw ((Decides-eqb c c).1 refl) refl

-- with a context a subtree has its children, as far as there are levels
child-in : (n : ℕ) (past : List Act) → AreAccepted past → (a p c : ℕ) → parent_of past c ≡ Some p → is_alive past c ≡ true → 16 < n + level_of past a
    → list_any (λ x. x == p) (subtree_within n past a) ≡ true → list_any (λ x. x == c) (subtree_within n past a) ≡ true
child-in zero past acc a p c e alive deep stands = absurd (cc)
child-in (suc n) past acc a p c e alive deep stands =
    or-right (a == c) (list_any (λ x. x == c) (flat_map (subtree_within n past) (children_of past a)))
    (or-split (a == p) (list_any (λ x. x == p) (flat_map (subtree_within n past) (children_of past a)))
    (list_any (λ x. x == c) (flat_map (subtree_within n past) (children_of past a)))
    (λ here.
    let same = (Decides-eqb a p).0 here in
    let level = level-child past c p acc e in
    let low = levels-accepted past acc c in
    let equal : level_of past p ≡ level_of past a = ap (level_of past) (sym same) in
    flat-in (λ x. x == c) (λ d. option_eq nat_eq (parent_of past d) (Some a)) (subtree_within n past) c (contexts past)
    (any-contexts past c ∙ alive) (same-option (parent_of past c) a (e ∙ ap (λ m. Some m) (sym same))) (root-in n past c (omega arith)))
    (flat-wide (λ x. x == p) (λ x. x == c) (λ d. option_eq nat_eq (parent_of past d) (Some a)) (subtree_within n past) (subtree_within n past) (contexts past)
    (λ d child later.
    let level = level-child past d a acc (option-same (parent_of past d) a child) in
    child-in n past acc d p c e alive (omega arith) later))
    stands)

-- ---- a whole subtree

-- what holds of the others holds where one more context was born
kept : (b x u : Bool) (p n : ℕ) → (b ≡ true → p ≡ n) → p < n → u ≡ true → (if b then x else u) ≡ true
kept true x u p n same below e = let new = same refl in absurd (omega arith)
kept false x u p n same below e = e

-- what stands on the chain of a context, where one more context was born
up-step : (u x : ℕ → Bool) (b s : Bool) (a c q n : ℕ) (o : Option ℕ) → (s ≡ true → a ≡ c) → q < n → ((p : ℕ) → o ≡ Some p → p < n)
    → (u c ≡ true → (a ≡ c) ⊎ ((p : ℕ) × (o ≡ Some p) × (u p ≡ true))) → (if b then s || u q else u c) ≡ true
    → (a ≡ c) ⊎ ((p : ℕ) × ((if b then Some q else o) ≡ Some p) × ((if p == n then x p else u p) ≡ true))
up-step u x true true a c q n o same below old ih e = inl (same refl)
up-step u x true false a c q n o same below old ih e = inr (q, refl, kept (q == n) (x q) (u q) q n (Decides-eqb q n).0 below e)
up-step u x false s a c q n o same below old ih e =
    elim (ih e) [ inl eq ↦ inl eq | inr w ↦ inr (w.0, w.1, kept (w.0 == n) (x w.0) (u w.0) w.0 n (Decides-eqb w.0 n).0 (old w.0 w.1) w.2) ]

-- what stands on the chain of a context is that context, or stands on the chain of its parent
pub under-up : (past : List Act) → AreAccepted past
    → (a c : ℕ) → is_under past a c ≡ true → (a ≡ c) ⊎ ((p : ℕ) × (parent_of past c ≡ Some p) × (is_under past a p ≡ true))
under-up [] acc a c e = inl ((Decides-eqb a c).0 e)
under-up (Framed q url ∷ past) acc a c e =
    let alive = (act-sound past acc.0 (Framed q url) acc.1).alive in
    up-step (is_under past a) (λ p. (a == p) || is_under past a q) (c == next_number past Context) (a == c) a c q (next_number past Context) (parent_of past c)
    (Decides-eqb a c).0 (alive-below q (next_number past Context) (is_gone past q) alive)
    (λ p f. let born = parent-born past acc.2 c p f in omega arith) (under-up past acc.2 a c) e
under-up (act ∷ past) acc a c e = under-up past acc.2 a c e

-- what stands below a context is in its subtree, as far as there are levels
under-in : (k n : ℕ) (past : List Act) → AreAccepted past → (a c : ℕ) → c ≤ k → 16 < n + level_of past a → is_alive past c ≡ true → is_under past a c ≡ true
    → list_any (λ x. x == c) (subtree_within n past a) ≡ true
under-in zero n past acc a c few deep alive up =
    let above = alive-above c (next_number past Context) (is_gone past c) alive in
    absurd (omega arith)
under-in (suc k) n past acc a c few deep alive up =
    elim (under-up past acc a c up) [
      | inl same ↦ (let low = levels-accepted past acc a in
          subst (λ d. list_any (λ x. x == d) (subtree_within n past a) ≡ true) same (root-in n past a (omega arith)))
      | inr w ↦ (let born = parent-born past acc c w.0 w.1 in
          child-in n past acc a w.0 c w.1 alive deep (under-in k n past acc a w.0 (omega arith) deep (parents-alive past acc c w.0 alive w.1) w.2))
    ]

-- a context on its own chain, where one more context was born
self-step : (b s up uc : Bool) → s ≡ true → uc ≡ true → (if b then s || up else uc) ≡ true
self-step true s up uc same old = rw same refl
self-step false s up uc same old = old

-- each context stands on its own chain
pub under-self : (past : List Act) (c : ℕ) → is_under past c c ≡ true
under-self [] c = (Decides-eqb c c).1 refl
under-self (Framed p url ∷ past) c =
    self-step (c == next_number past Context) (c == c) (is_under past c p) (is_under past c c) ((Decides-eqb c c).1 refl) (under-self past c)
under-self (act ∷ past) c = under-self past c

-- a subtree has just the live contexts at and below its root
pub any-subtree : (past : List Act) (a c : ℕ)
    → AreAccepted past → is_alive past a ≡ true → is_alive past c ≡ true → list_any (λ n. n == c) (subtree_of past a) ≡ is_under past a c
any-subtree past a c acc root alive =
    let above = level-above past a in
    agree (list_any (λ n. n == c) (subtree_within 16 past a)) (is_under past a c)
    (subtree-under 16 past acc a a c (under-self past a)) (under-in c 16 past acc a c (omega arith) (omega arith) alive)
