-- What is sent, one thing after another.
use Rattle.std.proofs.Common.{◌≡◌, ◌∙◌, ℕ, Bool, true, false, List, [], ◌∷◌, ◌++◌, append_assoc, flat_map, refl, sym, ap, ap₂}
use Rattle.std.specs.Prelude.{filter}
use Rattle.bidi_remote.specs.Machine.Sent.{Sent}

-- events, a reply, and events
pub in_order : (m0 m1 m2 m3 before after : List Sent) (t u : Sent) → m0 ≡ [] → m1 ≡ m0 ++ before → m2 ≡ m1 ++ t ∷ [] → t ≡ u → m3 ≡ m2 ++ after
    → m3 ≡ before ++ u ∷ after
in_order m0 m1 m2 m3 before after t u none first reply is last =
    last
    ∙ (ap (λ xs. xs ++ after) (reply ∙ ap₂ (λ xs x. xs ++ x ∷ []) (first ∙ ap (λ xs. xs ++ before) none) is)
    ∙ append_assoc before (u ∷ []) after)

module _ (f : ℕ → List Sent) (p : ℕ → Bool) where
  -- the next session is reached
  pub reached-next : (s : ℕ) (rest : List ℕ) (sent : List Sent) → p s ≡ true
      → sent ++ flat_map f (filter p (s ∷ rest)) ≡ (sent ++ f s) ++ flat_map f (filter p rest)
  reached-next s rest sent is = rw is (sym (append_assoc sent (f s) (flat_map f (filter p rest))))

  -- it is not
  pub reached-other : (s : ℕ) (rest : List ℕ) → p s ≡ false → flat_map f (filter p (s ∷ rest)) ≡ flat_map f (filter p rest)
  reached-other s rest is = rw is refl
