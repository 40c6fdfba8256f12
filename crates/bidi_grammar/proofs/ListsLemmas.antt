-- The lists of a group are what it stands for.
use Rattle.std.proofs.Common.{◌≡◌, ◌⊎◌, ℕ, List, [], ◌∷◌, ◌++◌, map, Some, refl, inl, inr, sym, subst, ap, ◌∙◌}
use Rattle.bidi_grammar.specs.Term.{Need}
use Rattle.bidi_grammar.specs.Source.{Written, Group, empty, named, further, both, choice, maybe, group, Entry, at_name, others, Rules, pairs, IsOne}
use Rattle.bidi_grammar.specs.Source.{Picks, picks_empty, picks_named, picks_further, picks_both, picks_first, picks_second, picks_none, picks_some, picks_group}
use Rattle.bidi_grammar.specs.Source.{Lists, lists_empty, lists_named, lists_further, lists_both, lists_choice, lists_maybe, lists_group}

pub some_is : {X : Type 0} (x y : X) → Some x ≡ Some y → x ≡ y
some_is x y e = cc

-- ---- lists among others

in_first : (x : List Entry) (xs ys : List (List Entry)) → IsOne x xs → IsOne x (xs ++ ys)
in_first x [] ys h = absurd h
in_first x (y ∷ xs) ys (inl e) = inl e
in_first x (y ∷ xs) ys (inr h) = inr (in_first x xs ys h)

in_second : (x : List Entry) (xs ys : List (List Entry)) → IsOne x ys → IsOne x (xs ++ ys)
in_second x [] ys h = h
in_second x (y ∷ xs) ys h = inr (in_second x xs ys h)

in_either : (x : List Entry) (xs ys : List (List Entry)) → IsOne x (xs ++ ys) → IsOne x xs ⊎ IsOne x ys
in_either x [] ys h = inr h
in_either x (y ∷ xs) ys (inl e) = inl (inl e)
in_either x (y ∷ xs) ys (inr h) = elim (in_either x xs ys h) [ inl a ↦ inl (inr a) | inr b ↦ inr b ]

in_map : (xs y : List Entry) (yss : List (List Entry)) → IsOne y yss → IsOne (xs ++ y) (map (λ ys. xs ++ ys) yss)
in_map xs y [] h = absurd h
in_map xs y (z ∷ yss) (inl e) = inl (ap (λ w. xs ++ w) e)
in_map xs y (z ∷ yss) (inr h) = inr (in_map xs y yss h)

-- a list among those that begin with xs is xs and one of the others
of_map : (x xs : List Entry) (yss : List (List Entry)) → IsOne x (map (λ ys. xs ++ ys) yss) → (y : List Entry) × (IsOne y yss × (x ≡ xs ++ y))
of_map x xs [] h = absurd h
of_map x xs (y ∷ yss) (inl e) = (y, (inl refl, e))
of_map x xs (y ∷ yss) (inr h) = let p = of_map x xs yss h in (p.0, (inr p.1.0, p.1.1))

in_pairs : (xs ys : List Entry) (xss yss : List (List Entry)) → IsOne xs xss → IsOne ys yss → IsOne (xs ++ ys) (pairs xss yss)
in_pairs xs ys [] yss h k = absurd h
in_pairs xs ys (zs ∷ xss) yss (inl e) k =
    in_first (xs ++ ys) (map (λ ws. zs ++ ws) yss) (pairs xss yss) (subst (λ w. IsOne (w ++ ys) (map (λ ws. zs ++ ws) yss)) (sym e) (in_map zs ys yss k))
in_pairs xs ys (zs ∷ xss) yss (inr h) k = in_second (xs ++ ys) (map (λ ws. zs ++ ws) yss) (pairs xss yss) (in_pairs xs ys xss yss h k)

of_pairs : (x : List Entry) (xss yss : List (List Entry)) → IsOne x (pairs xss yss)
    → (xs : List Entry) × ((ys : List Entry) × (IsOne xs xss × (IsOne ys yss × (x ≡ xs ++ ys))))
of_pairs x [] yss h = absurd h
of_pairs x (zs ∷ xss) yss h = elim (in_either x (map (λ ws. zs ++ ws) yss) (pairs xss yss) h) [
  | inl a ↦ let p = of_map x zs yss a in (zs, (p.0, (inl refl, (p.1.0, p.1.1))))
  | inr b ↦ let p = of_pairs x xss yss b in (p.0, (p.1.0, (inr p.1.1.0, (p.1.1.1.0, p.1.1.1.1))))
]

-- ---- what a group stands for is listed

module _ {ρ : Rules} where
  among_empty : {xss : List (List Entry)} → Lists ρ empty xss → IsOne [] xss
  among_empty lists_empty = inl refl

  among_named : {k : List ℕ} {need : Need} {σ : Written} {xss : List (List Entry)} → Lists ρ (named k need σ) xss → IsOne (at_name k need σ ∷ []) xss
  among_named (lists_named k need σ) = inl refl

  among_further : {σ : Written} {xss : List (List Entry)} → Lists ρ (further σ) xss → IsOne (others σ ∷ []) xss
  among_further (lists_further σ) = inl refl

  lists_of_both : {A B : Group} {zss : List (List Entry)} → Lists ρ (both A B) zss
      → (xss : List (List Entry)) × ((yss : List (List Entry)) × ((zss ≡ pairs xss yss) × (Lists ρ A xss × Lists ρ B yss)))
  lists_of_both (lists_both A B xss yss l m) = (xss, (yss, (refl, (l, m))))

  lists_of_choice : {A B : Group} {zss : List (List Entry)} → Lists ρ (choice A B) zss
      → (xss : List (List Entry)) × ((yss : List (List Entry)) × ((zss ≡ xss ++ yss) × (Lists ρ A xss × Lists ρ B yss)))
  lists_of_choice (lists_choice A B xss yss l m) = (xss, (yss, (refl, (l, m))))

  lists_of_maybe : {A : Group} {zss : List (List Entry)} → Lists ρ (maybe A) zss → (xss : List (List Entry)) × ((zss ≡ xss ++ [] ∷ []) × Lists ρ A xss)
  lists_of_maybe (lists_maybe A xss l) = (xss, (refl, l))

  lists_of_group : {k : List ℕ} {xss : List (List Entry)} → Lists ρ (group k) xss → (A : Group) × ((ρ.group_of k ≡ Some A) × Lists ρ A xss)
  lists_of_group (lists_group k A xss e l) = (A, (e, l))

  pub among : {A : Group} {xs : List Entry} {zss : List (List Entry)} → Picks ρ A xs → Lists ρ A zss → IsOne xs zss
  among picks_empty l = among_empty l
  among (picks_named k need σ) l = among_named l
  among (picks_further σ) l = among_further l
  among (picks_both A B xs ys p q) l =
      let h = lists_of_both l in
      subst (λ w. IsOne (xs ++ ys) w) (sym h.1.1.0) (in_pairs xs ys h.0 h.1.0 (among p h.1.1.1.0) (among q h.1.1.1.1))
  among (picks_first A B xs p) l =
      let h = lists_of_choice l in subst (λ w. IsOne xs w) (sym h.1.1.0) (in_first xs h.0 h.1.0 (among p h.1.1.1.0))
  among (picks_second A B xs p) l =
      let h = lists_of_choice l in subst (λ w. IsOne xs w) (sym h.1.1.0) (in_second xs h.0 h.1.0 (among p h.1.1.1.1))
  among (picks_none A) l = let h = lists_of_maybe l in subst (λ w. IsOne [] w) (sym h.1.0) (in_second [] h.0 ([] ∷ []) (inl refl))
  among (picks_some A xs p) l = let h = lists_of_maybe l in subst (λ w. IsOne xs w) (sym h.1.0) (in_first xs h.0 ([] ∷ []) (among p h.1.1))
  among {zss = zss} (picks_group k A xs e p) l =
      let h = lists_of_group l in among p (subst (λ B. Lists ρ B zss) (some_is h.0 A (sym h.1.0 ∙ e)) h.1.1)

  -- a group stands for each list of its own
  pub picked : {A : Group} {zss : List (List Entry)} → Lists ρ A zss → (xs : List Entry) → IsOne xs zss → Picks ρ A xs
  picked lists_empty xs (inl e) = subst (λ w. Picks ρ empty w) (sym e) picks_empty
  picked lists_empty xs (inr h) = absurd h
  picked (lists_named k need σ) xs (inl e) = subst (λ w. Picks ρ (named k need σ) w) (sym e) (picks_named k need σ)
  picked (lists_named k need σ) xs (inr h) = absurd h
  picked (lists_further σ) xs (inl e) = subst (λ w. Picks ρ (further σ) w) (sym e) (picks_further σ)
  picked (lists_further σ) xs (inr h) = absurd h
  picked (lists_both A B xss yss l m) xs h =
      let p = of_pairs xs xss yss h in
      subst (λ w. Picks ρ (both A B) w) (sym p.1.1.1.1) (picks_both A B p.0 p.1.0 (picked l p.0 p.1.1.0) (picked m p.1.0 p.1.1.1.0))
  picked (lists_choice A B xss yss l m) xs h = elim (in_either xs xss yss h) [
    | inl a ↦ picks_first A B xs (picked l xs a)
    | inr b ↦ picks_second A B xs (picked m xs b)
  ]
  picked (lists_maybe A xss l) xs h = elim (in_either xs xss ([] ∷ []) h) [
    | inl a ↦ picks_some A xs (picked l xs a)
    | inr (inl e) ↦ subst (λ w. Picks ρ (maybe A) w) (sym e) (picks_none A)
    | inr (inr b) ↦ absurd b
  ]
  picked (lists_group k A xss e l) xs h = picks_group k A xs e (picked l xs h)
