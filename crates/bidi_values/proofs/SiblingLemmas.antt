-- What a reader of the map around a value answers.
use Rattle.std.proofs.Common.{◌≡◌, ℕ, List, codes, Bool, true, false, Some, bytes_eq, refl, sym, ap, ◌∙◌, subst}
use Rattle.std.proofs.lemmas.Slice.Eq.{bytes_eq-Decides}
use Rattle.std.specs.List.{list_any}
use Rattle.bidi_tree.specs.Node as node
use Rattle.bidi_tree.specs.Node.{Node, Members, no_members, member, get_member, AreAscending}
use Rattle.bidi_tree.proofs.MemberLemmas.{skips, same_members}
use Rattle.bidi_shape.specs.Term.{Term, required, null, list_of, names_of}
use Rattle.bidi_shape.specs.Fits.{Fits, RowsFit, without}
use Rattle.bidi_shape.specs.Parts.{PartsAt, PartFits}
use Rattle.bidi_shape.specs.MapLaws.{map_again, map_inside, apart, at-without_other, at-without_named, Sorted-without}
use Rattle.bidi_values.specs.SiblingLaws.{SiblingsOf, and_value, around, holding, names-and_value, RowsFit-head, value_fits, unnamed-and_value}

module _ {H : Type 0} (s : SiblingsOf H) (t : Node) (ms : Members) where
  inside : (τ : Term) → node.map ms ≡ t → Fits t (holding s τ) → RowsFit ms (and_value s.rows τ) × (without (names_of (and_value s.rows null)) ms ≡ no_members)
  inside τ is f =
      let p = map_inside (subst (λ x. Fits x (holding s τ)) (sym is) f) in
      (p.0, ap (λ ks. without ks ms) (names-and_value s.rows null τ) ∙ p.1)

  -- a map whose other members do not fit
  pub siblings_misfit : node.map ms ≡ t → (RowsFit ms s.rows → without (names_of (and_value s.rows null)) ms ≡ no_members → ⊥)
      → (τ : Term) → Fits t (holding s (list_of 0 τ)) → ⊥
  siblings_misfit is bad τ f = let p = inside (list_of 0 τ) is f in bad (RowsFit-head s.rows (list_of 0 τ) ms p.0) p.1

  -- and one whose value is no list
  pub value_misfit : node.map ms ≡ t → ((τ : Term) → PartFits required (list_of 0 τ) (get_member (codes "value") ms) → ⊥)
      → (τ : Term) → Fits t (holding s (list_of 0 τ)) → ⊥
  value_misfit is bad τ f = bad τ (value_fits s.rows (list_of 0 τ) ms (inside (list_of 0 τ) is f).0)

  -- the members beside the value and the value are the whole map
  pub around_again : (h : H) (v : Node)
      → node.map ms ≡ t → AreAscending ms → PartsAt s.rows (s.parts h) ms → without (names_of (and_value s.rows null)) ms ≡ no_members
      → get_member (codes "value") ms ≡ Some v → around s h v ≡ t
  around_again h v is sorted parts rest value =
      ap node.map (map_again s.rows (s.parts h) ms (member (codes "value") v no_members) s.once parts sorted
      (same_members (member (codes "value") v no_members) (without ks ms) (tt, tt) (Sorted-without ks ms sorted)
      (λ q. at q (bytes_eq q (codes "value")) refl (list_any (bytes_eq q) ks) refl))) ∙ is
    where
      ks : List (List ℕ)
      ks = names_of s.rows

      at : (q : List ℕ) (b : Bool) → bytes_eq q (codes "value") ≡ b
          → (c : Bool) → list_any (bytes_eq q) ks ≡ c → get_member q (member (codes "value") v no_members) ≡ get_member q (without ks ms)
      at q true same c e =
          let is_value : q ≡ codes "value" = (bytes_eq-Decides q (codes "value")).0 same in
          ap (λ x. get_member x (member (codes "value") v no_members)) is_value
          ∙ sym value ∙ sym (at-without_other ks (codes "value") ms s.free) ∙ ap (λ x. get_member x (without ks ms)) (sym is_value)
      at q false other true e = skips q (codes "value") v no_members (apart q (codes "value") other) ∙ sym (at-without_named ks q ms e)
      at q false other false e =
          skips q (codes "value") v no_members (apart q (codes "value") other)
          ∙ ap (get_member q) (sym rest)
          ∙ at-without_other (names_of (and_value s.rows null)) q ms (unnamed-and_value s.rows null q e other)
          ∙ sym (at-without_other ks q ms e)
