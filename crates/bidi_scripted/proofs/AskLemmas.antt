-- Words that are known, and names.
use Rattle.std.proofs.Common.{◌≡◌, ℕ, true, List, [], ◌∷◌, length, String, Global, refl, arith}
use Rattle.std.specs.Prelude.{◌==◌}
use Rattle.std.proofs.lemmas.Bool.Decides.{Decides-eqb}
use Rattle.bidi_names.specs.View.{texts_of}

-- no names are known
pub no-names : (names : List (String Global)) (n : ℕ) → n ≡ length names → (n == 0) ≡ true → texts_of names ≡ []
no-names [] n e none = refl
no-names (name ∷ names) n e none = absurd (let zero : n ≡ 0 = (Decides-eqb n 0).0 none in omega arith)
