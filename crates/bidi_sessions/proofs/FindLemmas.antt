-- A search that has passed the first items of a list.
use Rattle.std.proofs.Common.{◌≡◌, ◌∙◌, ◌<◌, ◌+◌, ℕ, zero, suc, Bool, true, false, List, [], ◌∷◌, length, drop, Some, None, refl, arith, get_or, ap}
use Rattle.std.specs.Prelude.{find, bytes_eq}
use Rattle.std.proofs.lemmas.Slice.Eq.{bytes_eq-Decides}

next : {X : Type 0} (p : X → Bool) (xs : List X) (i : ℕ) (d : X) → i < length xs → p (get_or xs i d) ≡ false → find p (drop i xs) ≡ find p (drop (suc i) xs)
next p [] i d less fails = absurd (omega arith)
next p (x ∷ xs) zero d less fails = rw fails refl
next p (x ∷ xs) (suc i) d less fails = next p xs i d (omega arith) fails

-- the next item fails the test
pub find-next : {X : Type 0} (p : X → Bool) (xs : List X) (i : ℕ) (d : X)
    → i < length xs → p (get_or xs i d) ≡ false → find p (drop i xs) ≡ find p (drop (i + 1) xs)
find-next p xs i d less fails = let e : suc i ≡ i + 1 = omega arith in next p xs i d less fails ∙ ap (λ k. find p (drop k xs)) e

-- the next item passes it
pub find-here : {X : Type 0} (p : X → Bool) (xs : List X) (i : ℕ) (d : X) → i < length xs → p (get_or xs i d) ≡ true → find p (drop i xs) ≡ Some (get_or xs i d)
find-here p [] i d less passes = absurd (omega arith)
find-here p (x ∷ xs) zero d less passes = rw passes refl
find-here p (x ∷ xs) (suc i) d less passes = find-here p xs i d (omega arith) passes

-- no item is left
pub find-end : {X : Type 0} (p : X → Bool) (xs : List X) (i : ℕ) → length xs ≡ i → find p (drop i xs) ≡ None
find-end p [] zero e = refl
find-end p [] (suc i) e = refl
find-end p (x ∷ xs) zero e = absurd (omega arith)
find-end p (x ∷ xs) (suc i) e = find-end p xs i (omega arith)

-- no item passes it
pub find-none : {X : Type 0} (p : X → Bool) (xs : List X) → ((x : X) → p x ≡ false) → find p xs ≡ None
find-none p [] fails = refl
find-none p (x ∷ xs) fails = rw (fails x) (find-none p xs fails)

-- bytes that are not equal
pub differ : (xs ys : List ℕ) → (xs ≡ ys → ⊥) → bytes_eq xs ys ≡ false
differ xs ys apart = by (bytes_eq xs ys) refl
  where
    by : (b : Bool) → bytes_eq xs ys ≡ b → b ≡ false
    by true e = absurd (apart ((bytes_eq-Decides xs ys).0 e))
    by false e = refl
