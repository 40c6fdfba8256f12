-- What is behind a known front of a text.
use Rattle.std.proofs.Common.{◌≡◌, ◌∙◌, ◌++◌, ◌↔◌, List, ℕ, Bool, IsTrue, subst, sym}
use Rattle.std.proofs.lemmas.List.{append_cancel_left}

-- a test of what is behind a front is a test of the text
pub behind-tests : (P : List ℕ → Type 0) (text front rest : List ℕ) (b : Bool) → text ≡ front ++ rest → (IsTrue b ↔ P rest)
    → (IsTrue b → (place : List ℕ) × (text ≡ front ++ place) × P place) × (((place : List ℕ) × (text ≡ front ++ place) × P place) → IsTrue b)
behind-tests P text front rest b is tests = (
  λ t. (rest, is, tests.0 t),
  λ found. tests.1 (subst P (append_cancel_left front found.0 rest (sym found.1 ∙ is)) found.2),
)
