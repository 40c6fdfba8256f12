-- How one row of the table changes, and the row of a context that navigates.
use Rattle.std.proofs.Common.{◌≡◌, ◌∙◌, ◌<◌, ◌≤◌, ℕ, zero, suc, Bool, true, false, cond, List, [], ◌∷◌, length}
use Rattle.std.proofs.Common.{set, get_or, map, Option, Some, None, refl, sym, ap, ap₂, subst, arith}
use Rattle.std.specs.Prelude.{◌==◌, if◌then◌else◌, find, nat_lt}
use Rattle.std.specs.List.{position, position_or_len}
use Rattle.std.proofs.lemmas.List.Quantifiers.{position-Some}
use Rattle.std.proofs.lemmas.Bool.Decides.{nat_tests, Decides-eqb}
use Rattle.bidi_handles.specs.declared.id.IdKind.TheVariants.{Realm}
use Rattle.bidi_contexts.specs.Acts.{Act, Moved, Move, next_number}
use Rattle.bidi_contexts.specs.Accepted.{AreAccepted}
use Rattle.bidi_contexts.specs.Contexts.{tree_order}
use Rattle.bidi_contexts.specs.ContextRows.{ContextRow, row_at, rows, changed, moved_in}
use Rattle.bidi_contexts.proofs.HandleLemmas.{handles-unmade}
use Rattle.bidi_contexts.proofs.MemberLemmas.{has, AreApart, has-first, has-later, by-cases, fails, no-truth, map-in}
use Rattle.bidi_contexts.proofs.TreeLemmas.{order-apart}

-- ---- one row that changes

-- a value that is put at the place of the first of that number, by what is seen of it
pub changed-at : {X : Type 0} (g : X → ContextRow) (f : ContextRow → ContextRow) (c : ℕ) (xs : List X) (i : ℕ) (x d : X)
    → position (λ y. (g y).number == c) xs ≡ Some i → g x ≡ f (g (get_or xs i d))
    → map g (set xs i x) ≡ changed c f (map g xs)
changed-at {X} g f c xs i x d at e = let here = position-Some (λ y. (g y).number == c) xs i d at in by xs i here.0 here.1 here.2 e
  where
    by : (xs : List X) (i : ℕ) → i < length xs → ((g (get_or xs i d)).number == c) ≡ true
        → ((j : ℕ) → j < i → ((g (get_or xs j d)).number == c) ≡ false) → g x ≡ f (g (get_or xs i d)) → map g (set xs i x) ≡ changed c f (map g xs)
    by [] i less passes before e = absurd (omega arith)
    by (y ∷ xs) zero less passes before e = rw passes (ap (λ r. r ∷ map g xs) e)
    by (y ∷ xs) (suc i) less passes before e =
        rw (before 0 (omega arith)) (ap (λ rows. g y ∷ rows) (by xs i (omega arith) passes (λ j lower. before (suc j) (omega arith)) e))

-- no item passes
pub position-none : {X : Type 0} (p : X → Bool) (xs : List X) → (let none : Option ℕ = None in position p xs ≡ none) → find p xs ≡ None
position-none p xs none = fails p xs (past-end (nat_lt (position_or_len p xs) (length xs)) refl none)
  where
    past-end : (b : Bool) → nat_lt (position_or_len p xs) (length xs) ≡ b
        → (let none : Option ℕ = None in cond (nat_lt (position_or_len p xs) (length xs)) (Some (position_or_len p xs)) None ≡ none)
        → length xs ≤ position_or_len p xs
    past-end b e is = grind (arith, nat_tests, e, is)

    fails : {X : Type 0} (p : X → Bool) (xs : List X) → length xs ≤ position_or_len p xs → find p xs ≡ None
    fails p [] le = refl
    fails p (x ∷ xs) le = let ih = fails p xs in grind (arith, nat_tests, ih, le)

-- where none has the number, none is changed
pub changed-none : {X : Type 0} (g : X → ContextRow) (f : ContextRow → ContextRow) (c : ℕ) (xs : List X)
    → (let none : Option ℕ = None in position (λ y. (g y).number == c) xs ≡ none) → map g xs ≡ changed c f (map g xs)
changed-none {X} g f c xs none = by xs (position-none (λ y. (g y).number == c) xs none)
  where
    by : (xs : List X) → find (λ y. (g y).number == c) xs ≡ None → map g xs ≡ changed c f (map g xs)
    by [] none = refl
    by (y ∷ xs) none = let ih = by xs in grind (arith, nat_tests, ih, none)

-- no row is changed
pub changed-self : (c : ℕ) (rs : List ContextRow) → changed c (λ r. r) rs ≡ rs
changed-self c [] = refl
changed-self c (r ∷ rs) = let ih = changed-self c rs in grind (arith, nat_tests, ih)

-- what stands at the place of a context's number is its row
pub at-place : {X : Type 0} (g : X → ContextRow) (past : List Act) (xs : List X) (c i : ℕ) (d : X)
    → map g xs ≡ rows past → position (λ x. (g x).number == c) xs ≡ Some i → g (get_or xs i d) ≡ row_at past c
at-place {X} g past xs c i d same at = let here = position-Some (λ x. (g x).number == c) xs i d at in by xs (tree_order past) i same here.0 here.1
  where
    by : (xs : List X) (cs : List ℕ) (i : ℕ)
        → map g xs ≡ map (row_at past) cs → i < length xs → ((g (get_or xs i d)).number == c) ≡ true → g (get_or xs i d) ≡ row_at past c
    by [] cs i same less passes = absurd (omega arith)
    by (x ∷ xs) [] i same less passes = absurd (cc)
    by (x ∷ xs) (e ∷ cs) zero same less passes =
        let head : g x ≡ row_at past e = cc in
        let number : e ≡ c = sym (ap (λ (r : ContextRow). r.number) head) ∙ (Decides-eqb (g x).number c).0 passes in
        head ∙ ap (row_at past) number
    by (x ∷ xs) (e ∷ cs) (suc i) same less passes = let rest : map g xs ≡ map (row_at past) cs = cc in by xs cs i rest (omega arith) passes

-- of rows with numbers of their own, the row of one number changes, and no other
pub changed-rows : (f : ContextRow → ContextRow) (a : ℕ) (g h : ℕ → ContextRow) (xs : List ℕ) → AreApart xs → ((c : ℕ) → (g c).number ≡ c)
    → ((c : ℕ) → has xs c ≡ true → h c ≡ (if c == a then f (g c) else g c)) → changed a f (map g xs) ≡ map h xs
changed-rows f a g h [] apart number same = refl
changed-rows f a g h (x ∷ xs) apart number same =
    let here = same x (has-first x xs) in
    let ih = changed-rows f a g h xs apart.1 number (λ c there. same c (has-later x c xs there)) in
    ap (λ n. if n == a then f (g x) ∷ map g xs else g x ∷ changed a f (map g xs)) (number x)
    ∙ by-cases (x == a)
    (λ is.
    ap (λ b. if b then f (g x) ∷ map g xs else g x ∷ changed a f (map g xs)) is
    ∙ ap₂ (λ r rs. r ∷ rs) (sym (here ∙ ap (λ b. if b then f (g x) else g x) is))
    (map-in g h xs (λ c there. sym (same c (has-later x c xs there) ∙ ap (λ b. if b then f (g c) else g c) (other c there is)))))
    (λ no.
    ap (λ b. if b then f (g x) ∷ map g xs else g x ∷ changed a f (map g xs)) no
    ∙ ap₂ (λ r rs. r ∷ rs) (sym (here ∙ ap (λ b. if b then f (g x) else g x) no)) ih)
  where
    other : (c : ℕ) → has xs c ≡ true → (x == a) ≡ true → (c == a) ≡ false
    other c there is =
        fails (c == a) (λ too.
        let same : c ≡ x = (Decides-eqb c a).0 too ∙ sym ((Decides-eqb x a).0 is) in
        no-truth (has xs x) (subst (λ d. has xs d ≡ true) same there) apart.0)

-- ---- a navigation

-- the row of a context after it
row-step : (past : List Act) (a : ℕ) (move : Move) (c : ℕ) (b : Bool) → AreAccepted past
    → (c == a) ≡ b → row_at (Moved a move ∷ past) c ≡ (if b then moved_in (next_number past Realm) move (row_at past c) else row_at past c)
row-step past a move c true acc is = rw (is, handles-unmade past (next_number past Realm) acc (omega arith)) refl
row-step past a move c false acc is = rw is refl

-- the row of its context changes, before any is taken out
pub rows-led : (past : List Act) (a : ℕ) (move : Move) → AreAccepted past
    → changed a (moved_in (next_number past Realm) move) (rows past) ≡ map (row_at (Moved a move ∷ past)) (tree_order past)
rows-led past a move acc =
    changed-rows (moved_in (next_number past Realm) move) a (row_at past) (row_at (Moved a move ∷ past)) (tree_order past) (order-apart past acc) (λ c. refl)
    (λ c there. row-step past a move c (c == a) acc refl)
