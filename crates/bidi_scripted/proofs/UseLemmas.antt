-- The newest row that is for a command, at its place, and the rows after it was used.
use Rattle.std.proofs.Common.{◌≡◌, ◌∙◌, ◌<◌, ◌≤◌, ◌+◌, ℕ, zero, suc, Bool, true, false, List, [], ◌∷◌, ◌++◌, length, map, set, take, drop, get_or}
use Rattle.std.proofs.Common.{Option, Some, None, refl, sym, ap, subst, arith, ◌-◌}
use Rattle.std.specs.Prelude.{find, option_map, nat_lt, if◌then◌else◌}
use Rattle.std.proofs.lemmas.Bool.Decides.{nat_tests}
use Rattle.std.specs.List.{position}
use Rattle.std.proofs.lemmas.Grind.{common_steps}
use Rattle.std.proofs.lemmas.List.Quantifiers.{position-Some}
use Rattle.std.proofs.lemmas.List.Sums.{position_or_len_is}
use Rattle.bidi_sessions.proofs.ListLemmas.{find-seen, position-none, some-same}
use Rattle.bidi_rows.specs.declared.row.Row as declared_row
use Rattle.bidi_rows.specs.Command.{Command}
use Rattle.bidi_rows.specs.Rows.{Row, matches}
use Rattle.bidi_rows.specs.View.{row_of}
use Rattle.bidi_scripted.specs.Script.{used, counted}

-- an item inside a list is the same whatever stands for those outside
pub get_or-any : {X : Type 0} (xs : List X) (i : ℕ) (d e : X) → i < length xs → get_or xs i d ≡ get_or xs i e
get_or-any [] i d e less = absurd (omega (arith, less))
get_or-any (x ∷ xs) zero d e less = refl
get_or-any (x ∷ xs) (suc i) d e less = get_or-any xs i d e (omega (arith, less))

module _ (command : Command) where
  -- whether a row of the code is for the command
  abbrev pub is_for : declared_row.Row → Bool
  is_for r = matches command (row_of r)

  -- what holds of the first row that is for the command
  abbrev First : List declared_row.Row → ℕ → declared_row.Row → Type 0
  First xs i d = (i < length xs) × (is_for (get_or xs i d) ≡ true) × ((j : ℕ) → j < i → is_for (get_or xs j d) ≡ false)

  first : (xs : List declared_row.Row) (i : ℕ) (d : declared_row.Row) → position is_for xs ≡ Some i → First xs i d
  first xs i d at = position-Some is_for xs i d at

  found : (xs : List declared_row.Row) (i : ℕ) (d : declared_row.Row) → i < length xs → is_for (get_or xs i d) ≡ true
      → ((j : ℕ) → j < i → is_for (get_or xs j d) ≡ false) → find (matches command) (map row_of xs) ≡ Some (row_of (get_or xs i d))
  found [] i d less passes before = absurd (omega arith)
  found (y ∷ xs) zero d less passes before = rw passes refl
  found (y ∷ xs) (suc i) d less passes before = rw (before 0 (omega arith)) (found xs i d (omega arith) passes (λ j lower. before (suc j) (omega arith)))

  -- the row at the first place is the newest that is for the command
  pub found-at : (xs : List declared_row.Row) (i : ℕ) (d : declared_row.Row) → position is_for xs ≡ Some i
      → find (matches command) (map row_of xs) ≡ Some (row_of (get_or xs i d))
  found-at xs i d at = let here = first xs i d at in found xs i d here.0 here.1 here.2

  -- where no place is found, no row is for the command
  pub found-none : (xs : List declared_row.Row) → (let none : Option ℕ = None in position is_for xs ≡ none)
      → find (matches command) (map row_of xs) ≡ None
  found-none xs none = find-seen row_of (matches command) xs ∙ ap (option_map row_of) (position-none is_for xs none)

  changed : (xs : List declared_row.Row) (i : ℕ) (x d : declared_row.Row) → i < length xs → is_for (get_or xs i d) ≡ true
      → ((j : ℕ) → j < i → is_for (get_or xs j d) ≡ false) → counted (row_of (get_or xs i d)) (get_or xs i d).left ≡ row_of x ∷ []
      → map row_of (set xs i x) ≡ used command (map row_of xs)
  changed [] i x d less passes before e = absurd (omega arith)
  changed (y ∷ xs) zero x d less passes before e = rw passes (ap (λ rows. rows ++ map row_of xs) (sym e))
  changed (y ∷ xs) (suc i) x d less passes before e =
      rw (before 0 (omega arith)) (ap (λ rows. row_of y ∷ rows) (changed xs i x d (omega arith) passes (λ j lower. before (suc j) (omega arith)) e))

  -- a row that is put at the first place, counted
  pub used-set : (xs : List declared_row.Row) (i : ℕ) (x d : declared_row.Row) → position is_for xs ≡ Some i
      → counted (row_of (get_or xs i d)) (get_or xs i d).left ≡ row_of x ∷ [] → map row_of (set xs i x) ≡ used command (map row_of xs)
  used-set xs i x d at e = let here = first xs i d at in changed xs i x d here.0 here.1 here.2 e

  same : (xs : List declared_row.Row) (i : ℕ) (d : declared_row.Row) → i < length xs → is_for (get_or xs i d) ≡ true
      → ((j : ℕ) → j < i → is_for (get_or xs j d) ≡ false) → counted (row_of (get_or xs i d)) (get_or xs i d).left ≡ row_of (get_or xs i d) ∷ []
      → map row_of xs ≡ used command (map row_of xs)
  same [] i d less passes before e = absurd (omega arith)
  same (y ∷ xs) zero d less passes before e = rw passes (ap (λ rows. rows ++ map row_of xs) (sym e))
  same (y ∷ xs) (suc i) d less passes before e =
      rw (before 0 (omega arith)) (ap (λ rows. row_of y ∷ rows) (same xs i d (omega arith) passes (λ j lower. before (suc j) (omega arith)) e))

  -- a row that may be used without limit
  pub used-same : (xs : List declared_row.Row) (i : ℕ) (d : declared_row.Row) → position is_for xs ≡ Some i → (let none : Option ℕ = None in (get_or xs i d).left ≡ none)
      → map row_of xs ≡ used command (map row_of xs)
  used-same xs i d at e =
      let here = first xs i d at in
      same xs i d here.0 here.1 here.2 (ap (counted (row_of (get_or xs i d))) e)

  gone : (xs : List declared_row.Row) (i : ℕ) (d : declared_row.Row) → i < length xs → is_for (get_or xs i d) ≡ true
      → ((j : ℕ) → j < i → is_for (get_or xs j d) ≡ false) → counted (row_of (get_or xs i d)) (get_or xs i d).left ≡ []
      → map row_of (take i xs ++ drop (suc i) xs) ≡ used command (map row_of xs)
  gone [] i d less passes before e = absurd (omega arith)
  gone (y ∷ xs) zero d less passes before e = rw passes (ap (λ rows. rows ++ map row_of xs) (sym e))
  gone (y ∷ xs) (suc i) d less passes before e =
      rw (before 0 (omega arith)) (ap (λ rows. row_of y ∷ rows) (gone xs i d (omega arith) passes (λ j lower. before (suc j) (omega arith)) e))

  -- a row that was used for the last time
  pub used-gone : (xs : List declared_row.Row) (i : ℕ) (d : declared_row.Row) → position is_for xs ≡ Some i
      → counted (row_of (get_or xs i d)) (get_or xs i d).left ≡ [] → map row_of (take i xs ++ drop (i + 1) xs) ≡ used command (map row_of xs)
  used-gone xs i d at e =
      let here = first xs i d at in
      let next : suc i ≡ i + 1 = omega arith in
      ap (λ k. map row_of (take i xs ++ drop k xs)) (sym next) ∙ gone xs i d here.0 here.1 here.2 e

  -- the row of the code at that place, as it was read, in each of the three ways
  pub used-always : (xs : List declared_row.Row) (i : ℕ) (r : declared_row.Row) → position is_for xs ≡ Some i → r ≡ get_or xs i r
      → (let none : Option ℕ = None in r.left ≡ none) → map row_of xs ≡ used command (map row_of xs)
  used-always xs i r at same none = used-same xs i r at (ap (λ (x : declared_row.Row). x.left) (sym same) ∙ none)

  one-less : (r : declared_row.Row) (n : ℕ) → r.left ≡ Some n → 1 < n → counted (row_of r) r.left ≡ row_of (record r { left = Some (n - 1) }) ∷ []
  one-less r n is more =
      let test : nat_lt 1 n ≡ true = grind (arith, nat_tests, more) in
      ap (counted (row_of r)) is ∙ ap (λ b. if b then row_of (record r { left = Some (n - 1) }) ∷ [] else []) test

  no-more : (r : declared_row.Row) (n : ℕ) → r.left ≡ Some n → n ≤ 1 → counted (row_of r) r.left ≡ []
  no-more r n is few =
      let test : nat_lt 1 n ≡ false = grind (arith, nat_tests, few) in
      ap (counted (row_of r)) is ∙ ap (λ b. if b then row_of (record r { left = Some (n - 1) }) ∷ [] else []) test

  pub used-count : (xs : List declared_row.Row) (i : ℕ) (r q : declared_row.Row) (n : ℕ) → position is_for xs ≡ Some i → r ≡ get_or xs i r → q ≡ get_or xs i q
      → r.left ≡ Some n → 1 < n → map row_of (set xs i (record q { left = Some (n - 1) })) ≡ used command (map row_of xs)
  used-count xs i r q n at same other is more =
      let here = first xs i r at in
      let there : get_or xs i q ≡ get_or xs i r = get_or-any xs i q r here.0 in
      let rq : q ≡ r = other ∙ (there ∙ sym same) in
      ap (λ (x : declared_row.Row). map row_of (set xs i (record x { left = Some (n - 1) }))) rq
      ∙ used-set xs i (record r { left = Some (n - 1) }) r at
      (subst (λ (g : declared_row.Row). counted (row_of g) g.left ≡ row_of (record r { left = Some (n - 1) }) ∷ []) same (one-less r n is more))

  pub used-last : (xs : List declared_row.Row) (i : ℕ) (r : declared_row.Row) (n : ℕ) → position is_for xs ≡ Some i → r ≡ get_or xs i r
      → r.left ≡ Some n → n ≤ 1 → map row_of (take i xs ++ drop (i + 1) xs) ≡ used command (map row_of xs)
  used-last xs i r n at same is few =
      used-gone xs i r at (subst (λ (g : declared_row.Row). counted (row_of g) g.left ≡ []) same (no-more r n is few))

  -- the newest row is that at the place
  pub row-there : (xs : List declared_row.Row) (i : ℕ) (x : declared_row.Row) (r : Row) → position is_for xs ≡ Some i → x ≡ get_or xs i x
      → find (matches command) (map row_of xs) ≡ Some r → r ≡ row_of x
  row-there xs i x r at same is = some-same _ _ (sym is ∙ (found-at xs i x at ∙ ap (λ y. Some (row_of y)) (sym same)))

  -- where a place is found, there is a newest row
  pub found-some : (xs : List declared_row.Row) (i : ℕ) → position is_for xs ≡ Some i → (r : Row) × (find (matches command) (map row_of xs) ≡ Some r)
  found-some [] i at = cc
  found-some (x ∷ xs) i at = (row_of (get_or (x ∷ xs) i x), found-at (x ∷ xs) i x at)

-- the first place at which a test passes
pub position-first : {X : Type 0} (p : X → Bool) (xs : List X) (i : ℕ) (d : X) → i < length xs → p (get_or xs i d) ≡ true
    → ((k : ℕ) → k < i → p (get_or xs k d) ≡ false) → Some i ≡ position p xs
position-first p xs i d less passes before =
    let at = position_or_len_is p xs i d (omega (arith, less)) before (λ _. passes) in
    grind (arith, common_steps, at, less)

-- where all fail, there is no place
pub position-fails : {X : Type 0} (p : X → Bool) (xs : List X) → ((k : ℕ) (d : X) → k < length xs → p (get_or xs k d) ≡ false) → None ≡ position p xs
position-fails p [] fails = grind (arith, common_steps)
position-fails p (x ∷ xs) fails =
    let at = position_or_len_is p (x ∷ xs) (length (x ∷ xs)) x (omega arith) (λ k less. fails k x less) (λ less. absurd (omega (arith, less))) in
    grind (arith, common_steps, at)

-- a place is inside the list
pub position-inside : {X : Type 0} (p : X → Bool) (xs : List X) (i : ℕ) → position p xs ≡ Some i → i < length xs
position-inside p xs i at = grind (arith, common_steps, at)
