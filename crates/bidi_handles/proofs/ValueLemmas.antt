-- Tests on the names of members.
use Rattle.std.proofs.Common.{◌≡◌, ℕ, Bool, true, false, List, refl, sym}
use Rattle.std.specs.Prelude.{◌||◌, bytes_eq}
use Rattle.std.proofs.lemmas.Slice.Eq.{bytes_eq-Decides}
use Rattle.bidi_handles.proofs.ListLemmas.{agree}

-- two texts are equal either way
pub same-either : (xs ys : List ℕ) → bytes_eq xs ys ≡ bytes_eq ys xs
same-either xs ys =
    agree (bytes_eq xs ys) (bytes_eq ys xs) (λ e. (bytes_eq-Decides ys xs).1 (sym ((bytes_eq-Decides xs ys).0 e)))
    (λ e. (bytes_eq-Decides xs ys).1 (sym ((bytes_eq-Decides ys xs).0 e)))

-- the second of two words
pub or-second : (a b : Bool) → a ≡ false → b ≡ (a || (b || false))
or-second true b e = absurd (cc)
or-second false true e = refl
or-second false false e = refl
