-- A table whose first rows were looked at.
use Rattle.std.proofs.Common.{◌≡◌, ◌∙◌, ◌<◌, ◌≤◌, ◌+◌, ℕ, zero, suc, true, false, List, [], ◌∷◌, ◌++◌}
use Rattle.std.proofs.Common.{append_assoc, length, map, set, get_or, drop, refl, sym, ap, arith}
use Rattle.std.specs.Prelude.{◌==◌}
use Rattle.std.proofs.lemmas.Bool.Decides.{nat_tests}
use Rattle.bidi_sessions.specs.declared.connections.Connection.{Connection}
use Rattle.bidi_sessions.specs.Attachment.{SpeaksFor, is_for}
use Rattle.bidi_sessions.specs.ConnectionRows.{ConnectionRow, row_of, begun, to_each}
use Rattle.bidi_sessions.specs.Sent.{Sent}

-- the first of them changed by g
abbrev pub over : {X : Type 0} → (X → X) → ℕ → List X → List X
over g zero xs = xs
over g (suc i) [] = []
over g (suc i) (x ∷ xs) = g x ∷ over g i xs

pub over-all : {X : Type 0} (g : X → X) (i : ℕ) (xs : List X) → length xs ≤ i → over g i xs ≡ map g xs
over-all g zero [] le = refl
over-all g zero (x ∷ xs) le = absurd (omega arith)
over-all g (suc i) [] le = refl
over-all g (suc i) (x ∷ xs) le = ap (λ ys. g x ∷ ys) (over-all g i xs (omega arith))

next : {X : Type 0} (g : X → X) (i : ℕ) (xs : List X) (d : X) → i < length xs → over g (suc i) xs ≡ set (over g i xs) i (g (get_or (over g i xs) i d))
next g i [] d less = absurd (omega arith)
next g zero (x ∷ xs) d less = refl
next g (suc i) (x ∷ xs) d less = ap (λ ys. g x ∷ ys) (next g i xs d (omega arith))

-- the next one is changed
pub over-next : {X : Type 0} (g : X → X) (i : ℕ) (xs ys : List X) (y : X)
    → i < length xs → ys ≡ over g i xs → get_or ys i y ≡ y → over g (i + 1) xs ≡ set ys i (g y)
over-next g i xs ys y less same at =
    let e : i + 1 ≡ suc i = omega arith in
    ap (λ k. over g k xs) e ∙ (next g i xs y less ∙ (ap (λ zs. set zs i (g (get_or zs i y))) (sym same) ∙ ap (λ z. set ys i (g z)) at))

-- what stands at a place is put there again
set-again : {X : Type 0} (xs : List X) (i : ℕ) (x : X) → get_or xs i x ≡ x → set xs i x ≡ xs
set-again [] i x at = refl
set-again (y ∷ xs) zero x at = ap (λ z. z ∷ xs) (sym at)
set-again (y ∷ xs) (suc i) x at = ap (λ zs. y ∷ zs) (set-again xs i x at)

-- the next one is as it would be changed
pub over-kept : {X : Type 0} (g : X → X) (i : ℕ) (xs ys : List X) (y : X)
    → i < length xs → ys ≡ over g i xs → get_or ys i y ≡ y → y ≡ g y → ys ≡ over g (i + 1) xs
over-kept g i xs ys y less same at is = sym (set-again ys i y at) ∙ (ap (set ys i) is ∙ sym (over-next g i xs ys y less same at))

-- a row of that number begins, and any other is as it was
pub begun-same : (c s : ℕ) (row : ConnectionRow) → row.0 ≡ c → begun c s row ≡ (row.0, SpeaksFor s)
begun-same c s row e = grind (arith, nat_tests, e)

pub begun-other : (c s : ℕ) (row : ConnectionRow) → (row.0 == c) ≡ false → begun c s row ≡ row
begun-other c s row e = rw e refl

-- ---- what each connection of a session is sent

module _ (what : ℕ → Sent) (s : ℕ) where
  yes : (items : List Connection) (i : ℕ) (d : Connection) → i < length items → is_for s (row_of (get_or items i d)).1 ≡ true
      → to_each what s (map row_of (drop i items)) ≡ what (get_or items i d).number.value ∷ to_each what s (map row_of (drop (suc i) items))
  yes [] i d less is = absurd (omega arith)
  yes (x ∷ items) zero d less is = rw is refl
  yes (x ∷ items) (suc i) d less is = yes items i d (omega arith) is

  no_other : (items : List Connection) (i : ℕ) (d : Connection) → i < length items → is_for s (row_of (get_or items i d)).1 ≡ false
      → to_each what s (map row_of (drop i items)) ≡ to_each what s (map row_of (drop (suc i) items))
  no_other [] i d less is = absurd (omega arith)
  no_other (x ∷ items) zero d less is = rw is refl
  no_other (x ∷ items) (suc i) d less is = no_other items i d (omega arith) is

  -- the next connection speaks for the session
  pub to_each-next : (items : List Connection) (i : ℕ) (d : Connection) (sent : List Sent) → i < length items → is_for s (row_of (get_or items i d)).1 ≡ true
      → (sent ++ what (get_or items i d).number.value ∷ []) ++ to_each what s (map row_of (drop (i + 1) items))
      ≡ sent ++ to_each what s (map row_of (drop i items))
  to_each-next items i d sent less is =
      let e : i + 1 ≡ suc i = omega arith in
      append_assoc sent (what (get_or items i d).number.value ∷ []) (to_each what s (map row_of (drop (i + 1) items)))
      ∙ ap (λ rest. sent ++ rest) (ap (λ k. what (get_or items i d).number.value ∷ to_each what s (map row_of (drop k items))) e ∙ sym (yes items i d less is))

  -- it does not
  pub to_each-other : (items : List Connection) (i : ℕ) (d : Connection) (sent : List Sent) → i < length items → is_for s (row_of (get_or items i d)).1 ≡ false
      → sent ++ to_each what s (map row_of (drop (i + 1) items)) ≡ sent ++ to_each what s (map row_of (drop i items))
  to_each-other items i d sent less is =
      let e : i + 1 ≡ suc i = omega arith in
      ap (λ rest. sent ++ rest) (ap (λ k. to_each what s (map row_of (drop k items))) e ∙ sym (no_other items i d less is))
