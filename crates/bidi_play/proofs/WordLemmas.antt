-- The first word of a step's line.
use Rattle.std.proofs.Common.{◌≡◌, ℕ, false, List, ◌∷◌, ◌++◌, refl}
use Rattle.std.specs.Prelude.{◌==◌, decimal, codes}
use Rattle.std.specs.List.{list_any}
use Rattle.bidi_scripts.specs.Level.{level_text}
use Rattle.bidi_sessions.specs.Step.{Step}
use Rattle.bidi_sessions.specs.Step as step
use Rattle.bidi_play.specs.Lines.{line_of}

-- the answer of a search for the first space
abbrev pub Splits : List ℕ → (List ℕ → List ℕ → Type 0) → Type 0
Splits line Parts = (xs ys : List ℕ) → line ≡ xs ++ 32 ∷ ys → list_any (λ b. b == 32) xs ≡ false → Parts xs ys

-- the word of a step of a page
abbrev pub page_word : step.PageStep → List ℕ
page_word (step.Frame context url) = codes "frame"
page_word (step.Unframe context) = codes "unframe"
page_word (step.Log context level text) = codes "log"
page_word (step.TableRow text) = codes "value"

-- the text after its word
abbrev pub page_rest : step.PageStep → List ℕ
page_rest (step.Frame context url) = context ++ 32 ∷ url
page_rest (step.Unframe context) = context
page_rest (step.Log context level text) = context ++ 32 ∷ level_text level ++ 32 ∷ text
page_rest (step.TableRow text) = text

-- a search for the first space finds both
pub page_found : (line : List ℕ) (Parts : List ℕ → List ℕ → Type 0) → Splits line Parts
    → (page : step.PageStep) → line ≡ line_of (step.Page page) → Parts (page_word page) (page_rest page)
page_found line Parts h (step.Frame context url) e = h (codes "frame") (context ++ 32 ∷ url) e refl
page_found line Parts h (step.Unframe context) e = h (codes "unframe") context e refl
page_found line Parts h (step.Log context level text) e = h (codes "log") (context ++ 32 ∷ level_text level ++ 32 ∷ text) e refl
page_found line Parts h (step.TableRow text) e = h (codes "value") text e refl

-- each line has a space
pub has_space : (line : List ℕ) → Splits line (λ xs ys. ⊥) → (s : Step) → line ≡ line_of s → ⊥
has_space line h (step.At n) e = h (codes "at") (decimal n) e refl
has_space line h (step.Open c r) e = h (codes "open") (decimal c ++ 32 ∷ r) e refl
has_space line h (step.Drop c) e = h (codes "drop") (decimal c) e refl
has_space line h (step.Text c t) e = h (codes ">") (decimal c ++ 32 ∷ t) e refl
has_space line h (step.NotText c) e = h (codes "binary") (decimal c) e refl
has_space line h (step.Page page) e = page_found line (λ xs ys. ⊥) h page e

-- and that of a step begins with one of nine words
pub known_word : (line word rest : List ℕ) → Splits line (λ xs ys. (word ≡ xs) × (rest ≡ ys))
    → (word ≡ codes "at" → ⊥) → (word ≡ codes "drop" → ⊥) → (word ≡ codes "binary" → ⊥) → (word ≡ codes "open" → ⊥) → (word ≡ codes ">" → ⊥)
    → (word ≡ codes "frame" → ⊥) → (word ≡ codes "unframe" → ⊥) → (word ≡ codes "log" → ⊥) → (word ≡ codes "value" → ⊥)
    → (s : Step) → line ≡ line_of s → ⊥
known_word line word rest h a d b o t f u l v (step.At n) e = a (h (codes "at") (decimal n) e refl).0
known_word line word rest h a d b o t f u l v (step.Open c r) e = o (h (codes "open") (decimal c ++ 32 ∷ r) e refl).0
known_word line word rest h a d b o t f u l v (step.Drop c) e = d (h (codes "drop") (decimal c) e refl).0
known_word line word rest h a d b o t f u l v (step.Text c x) e = t (h (codes ">") (decimal c ++ 32 ∷ x) e refl).0
known_word line word rest h a d b o t f u l v (step.NotText c) e = b (h (codes "binary") (decimal c) e refl).0
known_word line word rest h a d b o t f u l v (step.Page (step.Frame context url)) e = f (page_found line _ h (step.Frame context url) e).0
known_word line word rest h a d b o t f u l v (step.Page (step.Unframe context)) e = u (page_found line _ h (step.Unframe context) e).0
known_word line word rest h a d b o t f u l v (step.Page (step.Log context level text)) e = l (page_found line _ h (step.Log context level text) e).0
known_word line word rest h a d b o t f u l v (step.Page (step.TableRow text)) e = v (page_found line _ h (step.TableRow text) e).0
