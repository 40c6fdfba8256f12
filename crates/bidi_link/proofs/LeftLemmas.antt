-- Steps of which some are done; the others are left in reverse order.
use Rattle.std.proofs.Common.{◌≡◌, ◌∙◌, ◌≤◌, List, [], ◌∷◌, ◌++◌, length, take, reverse, append_assoc, append-nil, length-append, refl, sym, ap, arith}
use Rattle.std.specs.List.{AllByRecursion}
use Rattle.std.proofs.lemmas.List.{reverse-append, reverse-reverse}
use Rattle.std.proofs.Math.Seq.{take-append_seam}

module _ {A : Type 0} (all done left : List A) where
  -- all are left
  pub none-done : left ≡ reverse all → all ≡ [] ++ reverse left
  none-done turned = sym (ap reverse turned ∙ reverse-reverse all)

  -- none is left
  pub all-done : all ≡ done ++ reverse left → left ≡ [] → done ≡ all
  all-done split none = sym (split ∙ (ap (λ xs. done ++ reverse xs) none ∙ append-nil done))

  -- one more is done
  pub more-done : (after : List A) (x : A) → all ≡ done ++ reverse left → left ≡ after ++ x ∷ [] → all ≡ (done ++ x ∷ []) ++ reverse after
  more-done after x split last =
      split ∙ (ap (λ xs. done ++ reverse xs) last ∙ (ap (λ xs. done ++ xs) (reverse-append after (x ∷ [])) ∙ sym (append_assoc done (x ∷ []) (reverse after))))

  -- the steps that are done are no more than all, and come first
  pub few-done : all ≡ done ++ reverse left → length done ≤ length all
  few-done split = let n = ap length split in let m = length-append done (reverse left) in omega (arith, n, m)

  pub front-done : all ≡ done ++ reverse left → take (length done) all ≡ done
  front-done split = ap (take (length done)) split ∙ take-append_seam done (reverse left)

-- a fact about each item holds of one between others
pub all-among : {A : Type 0} (P : A → Type 0) (done rest : List A) (x : A) → AllByRecursion P ((done ++ x ∷ []) ++ rest) → P x
all-among P [] rest x a = a.0
all-among P (y ∷ done) rest x a = all-among P done rest x a.1
