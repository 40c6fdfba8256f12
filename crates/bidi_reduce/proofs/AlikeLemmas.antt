-- Two pasts that are alike for a session, and what the session sees of a play without what is struck.
use Rattle.std.proofs.Common.{◌≡◌, ◌∙◌, ℕ, Bool, true, false, not, List, [], ◌∷◌, ◌++◌, refl, sym, ap, ap₂}
use Rattle.std.specs.List.{items_where_true}
use Rattle.bidi_remote.specs.Machine.History.{Input, Deed}
use Rattle.bidi_remote.specs.Machine.Outcome.{turn, with_turn, deeds}
use Rattle.bidi_remote.specs.Strike.{is_struck}
use Rattle.bidi_reduce.specs.Kept.{keeps_after, strike}
use Rattle.bidi_reduce.specs.Seen.{seen, sees_after, sees}
use Rattle.bidi_reduce.specs.Own.{own, Alike}
use Rattle.bidi_reduce.proofs.TurnLemmas.{turn-own, is_struck-own, with_turn-own, struck-own}
use Rattle.bidi_reduce.proofs.SeenLemmas.{seen_at, seen-own, seen-struck}

-- the same is struck after both
pub struck-alike : (s : ℕ) (p q : List Deed) (i : Input) → Alike s p q → is_struck p s i ≡ is_struck q s i
struck-alike s p q i alike = sym (is_struck-own s p i) ∙ (ap (λ past. is_struck past s i) alike ∙ is_struck-own s q i)

-- a struck input leaves them alike
pub alike-struck : (s : ℕ) (p q : List Deed) (i : Input) → Alike s p q → is_struck p s i ≡ true → Alike s (with_turn p (turn p i)) q
alike-struck s p q i alike struck = struck-own s p i struck ∙ alike

own-kept : (s : ℕ) (past : List Deed) (i : Input) → is_struck past s i ≡ false
    → own s (with_turn (own s past) (turn (own s past) i)) ≡ own s (with_turn past (turn past i))
own-kept s past i kept = ap (λ r. own s (with_turn (own s past) r)) (turn-own s past i kept) ∙ with_turn-own s past (turn past i)

-- so does a kept one
pub alike-kept : (s : ℕ) (p q : List Deed) (i : Input) → Alike s p q → is_struck p s i ≡ false → Alike s (with_turn p (turn p i)) (with_turn q (turn q i))
alike-kept s p q i alike kept =
    sym (own-kept s p i kept) ∙ (ap (λ past. own s (with_turn past (turn past i))) alike ∙ own-kept s q i (sym (struck-alike s p q i alike) ∙ kept))

-- and it shows the session the same
seen-alike : (s : ℕ) (p q : List Deed) (i : Input) → Alike s p q → is_struck p s i ≡ false → seen_at p s i ≡ seen_at q s i
seen-alike s p q i alike kept =
    sym (seen-own s p i kept) ∙ (ap (λ past. seen_at past s i) alike ∙ seen-own s q i (sym (struck-alike s p q i alike) ∙ kept))

-- after histories that are alike it sees the same of inputs and of those that are kept of them
sees-alike : (s : ℕ) (h g : List Input) (inputs : List Input)
    → Alike s (deeds h) (deeds g) → sees_after h s inputs ≡ sees_after g s (items_where_true (keeps_after h s inputs) inputs)
sees-alike s h g [] alike = refl
sees-alike s h g (i ∷ inputs) alike = step (is_struck (deeds h) s i) refl (λ k. sees-alike s (i ∷ h) k inputs)
  where
    step : (b : Bool) → is_struck (deeds h) s i ≡ b
        → ((k : List Input) → Alike s (deeds (i ∷ h)) (deeds k) → sees_after (i ∷ h) s inputs ≡ sees_after k s (items_where_true (keeps_after (i ∷ h) s inputs) inputs))
        → seen h s i ++ sees_after (i ∷ h) s inputs ≡ sees_after g s (items_where_true (not b ∷ keeps_after (i ∷ h) s inputs) (i ∷ inputs))
    step true struck ih =
        ap (λ xs. xs ++ sees_after (i ∷ h) s inputs) (seen-struck s (deeds h) i struck) ∙ ih g (alike-struck s (deeds h) (deeds g) i alike struck)
    step false kept ih =
        ap₂ (λ xs ys. xs ++ ys) (seen-alike s (deeds h) (deeds g) i alike kept) (ih (i ∷ g) (alike-kept s (deeds h) (deeds g) i alike kept))

-- a session sees the same of a play and of what is kept of it
pub sees-strike : (inputs : List Input) (s : ℕ) → sees inputs s ≡ sees (strike inputs s) s
sees-strike inputs s = sees-alike s [] [] inputs refl

-- ---- what is kept is kept again

-- after histories that are alike nothing is struck of what was kept
kept-again : (s : ℕ) (h g : List Input) (inputs : List Input) → Alike s (deeds h) (deeds g)
    → (let left = items_where_true (keeps_after h s inputs) inputs in items_where_true (keeps_after g s left) left ≡ left)
kept-again s h g [] alike = refl
kept-again s h g (i ∷ inputs) alike = step (is_struck (deeds h) s i) refl (λ k. kept-again s (i ∷ h) k inputs)
  where
    rest : List Input
    rest = items_where_true (keeps_after (i ∷ h) s inputs) inputs

    step : (b : Bool) → is_struck (deeds h) s i ≡ b
        → ((k : List Input) → Alike s (deeds (i ∷ h)) (deeds k) → items_where_true (keeps_after k s rest) rest ≡ rest)
        → (let left = items_where_true (not b ∷ keeps_after (i ∷ h) s inputs) (i ∷ inputs) in items_where_true (keeps_after g s left) left ≡ left)
    step true struck ih = ih g (alike-struck s (deeds h) (deeds g) i alike struck)
    step false kept ih =
        ap (λ b. items_where_true (not b ∷ keeps_after (i ∷ g) s rest) (i ∷ rest)) (sym (struck-alike s (deeds h) (deeds g) i alike) ∙ kept)
        ∙ ap (λ xs. i ∷ xs) (ih (i ∷ g) (alike-kept s (deeds h) (deeds g) i alike kept))

-- of what is kept of a play all is kept
pub strike-strike : (inputs : List Input) (s : ℕ) → strike (strike inputs s) s ≡ strike inputs s
strike-strike inputs s = kept-again s [] [] inputs refl
