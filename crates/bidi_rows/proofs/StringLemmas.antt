-- Strings that stand in others, and the JSON text of a string.
use Rattle.std.proofs.Common.{◌≡◌, ℕ, Bool, true, false, ◌||◌, List, [], ◌∷◌, ◌++◌, eqb, drop, length, refl, sym, ap, ◌∙◌, ◌↔◌, ◌⊎◌, inl, inr, subst, append-nil}
use Rattle.std.specs.List.{starts_with}
use Rattle.std.specs.Str.Iter.{HasSubslice}
use Rattle.std.proofs.Math.Bool.{or-true}
use Rattle.std.proofs.lemmas.Bool.Decides.{Decides-eqb}
use Rattle.std.proofs.lemmas.Slice.Eq.{starts_is}
use Rattle.json.specs.Token as token
use Rattle.json.specs.Print.{print, print_from, quoted}
use Rattle.bidi_rows.specs.Matching.{contains}

-- a string that starts with another is that one and a rest
starts_front : (s t : List ℕ) → starts_with eqb s t ≡ true → s ≡ t ++ drop (length t) s
starts_front s t h = (starts_is Decides-eqb s t (starts_with eqb s t) refl).0 h

-- a string and a rest start with that string
front_starts : (t rest : List ℕ) → starts_with eqb (t ++ rest) t ≡ true
front_starts t rest = (starts_is Decides-eqb (t ++ rest) t (starts_with eqb (t ++ rest) t) refl).1 rest refl

-- a string contains what it starts with
starts_contains : (s t : List ℕ) → starts_with eqb s t ≡ true → contains s t ≡ true
starts_contains [] t h = h
starts_contains (x ∷ s) t h = ap (λ b. b || contains s t) h

-- a string contains what stands in it
pub stands_contains : (a t b : List ℕ) → contains (a ++ (t ++ b)) t ≡ true
stands_contains [] t b = starts_contains (t ++ b) t (front_starts t b)
stands_contains (x ∷ a) t b =
    ap (λ c. starts_with eqb (x ∷ (a ++ (t ++ b))) t || c) (stands_contains a t b) ∙ or-true (starts_with eqb (x ∷ (a ++ (t ++ b))) t)

one_of : (b c : Bool) → (b || c) ≡ true → (b ≡ true) ⊎ (c ≡ true)
one_of true c h = inl refl
one_of false c h = inr h

longer : (x : ℕ) (s t : List ℕ) → HasSubslice s t → HasSubslice (x ∷ s) t
longer x s t (a, b, e) = (x ∷ a, b, ap (λ xs. x ∷ xs) e)

-- what a string contains stands in it
pub contains_stands : (s t : List ℕ) → contains s t ≡ true → HasSubslice s t
contains_stands [] t h = ([], drop (length t) [], starts_front [] t h)
contains_stands (x ∷ s) t h = elim (one_of (starts_with eqb (x ∷ s) t) (contains s t) h) [
  | inl starts ↦ ([], drop (length t) (x ∷ s), starts_front (x ∷ s) t starts)
  | inr later ↦ longer x s t (contains_stands s t later)
]

same_bool : (b c : Bool) → (b ≡ true → c ≡ true) → (c ≡ true → b ≡ true) → b ≡ c
same_bool true c there back = sym (there refl)
same_bool false true there back = back refl
same_bool false false there back = refl

-- an answer that says whether a string stands in another is that of the definition
pub contains_is : (r : Bool) (s t : List ℕ) → (r ≡ true) ↔ HasSubslice s t → r ≡ contains s t
contains_is r s t says = same_bool r (contains s t) (λ yes. stood (says.0 yes)) (λ found. says.1 (contains_stands s t found))
  where
    stood : HasSubslice s t → contains s t ≡ true
    stood (a, b, e) = subst (λ xs. contains xs t ≡ true) (sym e) (stands_contains a t b)

-- the text of a string alone is the quoted string
pub printed_string : (s : List ℕ) → print (token.string s ∷ []) ≡ quoted s
unfolding print_from
printed_string s = append-nil (quoted s)
