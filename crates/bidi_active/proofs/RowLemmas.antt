-- One row of the table of sessions that changes.
use Rattle.std.proofs.Common.{◌≡◌, ◌∙◌, ◌<◌, ℕ, zero, suc, true, false, List, [], ◌∷◌, length, map, set}
use Rattle.std.proofs.Common.{get_or, Option, Some, None, option_map, unwrap_or, refl, sym, ap, arith}
use Rattle.std.specs.Prelude.{◌==◌, find}
use Rattle.std.specs.List.{position}
use Rattle.std.proofs.lemmas.List.Quantifiers.{position-Some}
use Rattle.std.proofs.lemmas.Bool.Decides.{nat_tests}
use Rattle.bidi_active.specs.SessionRows.{SessionRow, begun, changed, row_in}
use Rattle.bidi_active.specs.SessionView.{session_row_of}
use Rattle.bidi_active.specs.declared.sessions.Session.{Session}
use Rattle.bidi_sessions.proofs.ListLemmas.{find-seen, position-none}

-- a value that is put at the place of the first of that number, by what is seen of it
pub changed-at : {X : Type 0} (g : X → SessionRow) (f : SessionRow → SessionRow) (s : ℕ) (xs : List X) (i : ℕ) (x d : X)
    → position (λ y. (g y).number == s) xs ≡ Some i → g x ≡ f (g (get_or xs i d))
    → map g (set xs i x) ≡ changed s f (map g xs)
changed-at {X} g f s xs i x d at e = let here = position-Some (λ y. (g y).number == s) xs i d at in by xs i here.0 here.1 here.2 e
  where
    by : (xs : List X) (i : ℕ) → i < length xs → ((g (get_or xs i d)).number == s) ≡ true
        → ((j : ℕ) → j < i → ((g (get_or xs j d)).number == s) ≡ false) → g x ≡ f (g (get_or xs i d)) → map g (set xs i x) ≡ changed s f (map g xs)
    by [] i less passes before e = absurd (omega arith)
    by (y ∷ xs) zero less passes before e = rw passes (ap (λ r. r ∷ map g xs) e)
    by (y ∷ xs) (suc i) less passes before e =
        rw (before 0 (omega arith)) (ap (λ rows. g y ∷ rows) (by xs i (omega arith) passes (λ j lower. before (suc j) (omega arith)) e))

-- where none has the number, none is changed
pub changed-none : {X : Type 0} (g : X → SessionRow) (f : SessionRow → SessionRow) (s : ℕ) (xs : List X)
    → (let none : Option ℕ = None in position (λ y. (g y).number == s) xs ≡ none) → map g xs ≡ changed s f (map g xs)
changed-none {X} g f s xs none = by xs (position-none (λ y. (g y).number == s) xs none)
  where
    by : (xs : List X) → find (λ y. (g y).number == s) xs ≡ None → map g xs ≡ changed s f (map g xs)
    by [] none = refl
    by (y ∷ xs) none = let ih = by xs in grind (arith, nat_tests, ih, none)

-- the row of that number is that at the place of the first
pub row-at : {X : Type 0} (g : X → SessionRow) (s : ℕ) (xs : List X) (i : ℕ) (d : X)
    → position (λ y. (g y).number == s) xs ≡ Some i → row_in s (map g xs) ≡ g (get_or xs i d)
row-at {X} g s xs i d at = let here = position-Some (λ y. (g y).number == s) xs i d at in by xs i here.0 here.1 here.2
  where
    by : (xs : List X) (i : ℕ) → i < length xs → ((g (get_or xs i d)).number == s) ≡ true
        → ((j : ℕ) → j < i → ((g (get_or xs j d)).number == s) ≡ false) → row_in s (map g xs) ≡ g (get_or xs i d)
    by [] i less passes before = absurd (omega arith)
    by (y ∷ xs) zero less passes before = rw passes refl
    by (y ∷ xs) (suc i) less passes before = rw (before 0 (omega arith)) (by xs i (omega arith) passes (λ j lower. before (suc j) (omega arith)))

-- no row is changed
pub changed-id : (s : ℕ) (rows : List SessionRow) → changed s (λ r. r) rows ≡ rows
changed-id s [] = refl
changed-id s (r ∷ rows) = let ih = changed-id s rows in grind (arith, nat_tests, ih)

-- ---- the sessions in hand

module _ (s place : ℕ) (items seen : List Session) (found : Option ℕ) (same : seen ≡ items) (is : found ≡ position (λ y. y.number == s) seen) where
  pub position-is : (o : Option ℕ) → found ≡ o → position (λ y. y.number == s) items ≡ o
  position-is o at = ap (position (λ y. y.number == s)) (sym same) ∙ (sym is ∙ at)

  -- one that was found is changed, and no other
  pub session-changed : (f : SessionRow → SessionRow) (x d : Session)
      → found ≡ Some place → session_row_of x ≡ f (session_row_of (get_or items place d))
      → map session_row_of (set items place x) ≡ changed s f (map session_row_of items)
  session-changed f x d at e = changed-at session_row_of f s items place x d (position-is (Some place) at) e

  -- where none is found, none is changed
  pub none-changed : (f : SessionRow → SessionRow)
      → (let none : Option ℕ = None in found ≡ none) → map session_row_of items ≡ changed s f (map session_row_of items)
  none-changed f none = changed-none session_row_of f s items (position-is None none)

-- the row of a session, as it was found or was not
pub row-in-hand : (s : ℕ) (items seen : List Session) (o : Option Session) → seen ≡ items
    → o ≡ find (λ y. y.number == s) seen → row_in s (map session_row_of items) ≡ unwrap_or (option_map session_row_of o) (begun s)
row-in-hand s items seen o same is =
    ap (λ x. unwrap_or x (begun s))
    (find-seen session_row_of (λ r. r.number == s) items ∙ ap (option_map session_row_of) (ap (find (λ y. y.number == s)) (sym same) ∙ sym is))
