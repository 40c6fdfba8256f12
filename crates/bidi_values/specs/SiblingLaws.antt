-- The members that stand beside the `value` of a closed map, and the laws of such maps.
use Rattle.std.proofs.Common.{◌≡◌, ◌<◌, arith, ℕ, List, [], ◌∷◌, codes, Bool, true, false, ◌||◌, Option, Some, bytes_eq, true≢false, refl, sym, ap, ◌∙◌, subst}
use Rattle.std.proofs.lemmas.Bool.{or_parts, or_from}
use Rattle.std.specs.List.{list_any}
use Rattle.bidi_tree.specs.Node as node
use Rattle.bidi_tree.specs.Node.{Node, Members, no_members, member, get_member, levels, members_levels, has_odd, AreAscending}
use Rattle.bidi_shape.specs.Term.{required, Term, closed, map_of, Rows, no_more, row, names_of}
use Rattle.bidi_shape.specs.Fits.{Fits, fits_map, RowsFit, no_row, there, absent, without}
use Rattle.bidi_shape.specs.Parts.{joined, distinct, PartsAt, PartsFit, PartFits}
use Rattle.bidi_shape.specs.Table.{Table}
use Rattle.bidi_shape.specs.WholeLaws.{PartsAreWhole, no_odd-joined}
use Rattle.bidi_shape.specs.InnerLaws.{RowsFit-first, RowsFit-more, RowsFit-row, member_levels}
use Rattle.bidi_shape.specs.MapLaws.{map_one, map_inside, PartsAt-joined, Aligned-PartsFit, RowsFit-PartsAt, unnamed, without_joined_among, at-joined_other}

-- the name is one of these
abbrev pub is_named : List (List ℕ) → List ℕ → Bool
is_named ks q = list_any (bytes_eq q) ks

-- the rows of the other members, and then a row for `value`, which is required
abbrev pub and_value : Rows → Term → Rows
and_value no_more τ = row (codes "value") required τ no_more
and_value (row k need σ rows) τ = row k need σ (and_value rows τ)

-- what a type provides if its values are the members beside a `value`: their rows, parts and laws
pub record SiblingsOf (H : Type 0) : Type 1 where
  pub rows : Rows
  -- what stands under each row's name
  pub parts : H → List (Option Node)
  pub well : H → Type 0
  pub same : H → H → Type 0
  -- each name stands once, and none is `value`
  pub once : distinct (names_of rows) ≡ true
  pub free : list_any (bytes_eq (codes "value")) (names_of rows) ≡ false
  pub parts_fit : (h : H) → well h → PartsFit rows (parts h)
  pub one : (g h : H) → well g → well h → parts g ≡ parts h → same g h
  -- the most levels of what stands there, in which there is no Odd
  pub deepest : ℕ
  pub whole : (h : H) → well h → PartsAreWhole (parts h) deepest

-- the term of a closed map with these members, whose `value` fits a term
abbrev pub holding : {H : Type 0} → SiblingsOf H → Term → Term
holding s τ = map_of (and_value s.rows τ) closed

-- the map of these members with this tree as its `value`
abbrev pub around : {H : Type 0} → SiblingsOf H → H → Node → Node
around s h t = node.map (joined s.rows (s.parts h) (member (codes "value") t no_members))

-- ---- rows and names

-- the rows fit with `value` if they fit without it and its tree fits
pub RowsFit-and_value : (rs : Rows) (τ : Term) (ms : Members) (t : Node)
    → RowsFit ms rs → get_member (codes "value") ms ≡ Some t → Fits t τ → RowsFit ms (and_value rs τ)
RowsFit-and_value no_more τ ms t f e h = there ms (codes "value") required τ no_more t e h (no_row ms)
RowsFit-and_value (row k need σ rs) τ ms t (there m l n ρ rest u e f more) is h =
    there m l n ρ (and_value rest τ) u e f (RowsFit-and_value rest τ m t more is h)
RowsFit-and_value (row k need σ rs) τ ms t (absent m l ρ rest e more) is h = absent m l ρ (and_value rest τ) e (RowsFit-and_value rest τ m t more is h)

-- rows that fit with `value` fit without it
pub RowsFit-head : (rs : Rows) (τ : Term) (ms : Members) → RowsFit ms (and_value rs τ) → RowsFit ms rs
RowsFit-head no_more τ ms f = no_row ms
RowsFit-head (row k need σ rs) τ ms f = RowsFit-row (RowsFit-head rs τ ms) f

-- the member `value` fits its term if the rows fit
pub value_fits : (rs : Rows) (τ : Term) (ms : Members) → RowsFit ms (and_value rs τ) → PartFits required τ (get_member (codes "value") ms)
value_fits no_more τ ms f = RowsFit-first f
value_fits (row k need σ rs) τ ms f = value_fits rs τ ms (RowsFit-more f)

or_later : (b c : Bool) → c ≡ true → (b || c) ≡ true
or_later true c e = refl
or_later false c e = e

-- if the second of two implies a third, the first or second implies the first or third
pub or_kept : (b c d : Bool) → (c ≡ true → d ≡ true) → (b || c) ≡ true → (b || d) ≡ true
or_kept true c d go e = refl
or_kept false c d go e = go e

neither : (b c : Bool) → b ≡ false → c ≡ false → (b || c) ≡ false
neither b c e f = rw (e, f) refl

named-and_value : (rs : Rows) (τ : Term) (q : List ℕ) → is_named (names_of rs) q ≡ true → is_named (names_of (and_value rs τ)) q ≡ true
named-and_value no_more τ q e = absurd (true≢false (sym e))
named-and_value (row k need σ rs) τ q e = or_kept (bytes_eq q k) (is_named (names_of rs) q) (is_named (names_of (and_value rs τ)) q) (named-and_value rs τ q) e

value_named : (rs : Rows) (τ : Term) → is_named (names_of (and_value rs τ)) (codes "value") ≡ true
value_named no_more τ = refl
value_named (row k need σ rs) τ = or_later (bytes_eq (codes "value") k) (is_named (names_of (and_value rs τ)) (codes "value")) (value_named rs τ)

-- a name that is neither one of the rows nor `value` is no name of the rows with `value`
pub unnamed-and_value : (rs : Rows) (τ : Term) (q : List ℕ)
    → is_named (names_of rs) q ≡ false → bytes_eq q (codes "value") ≡ false → is_named (names_of (and_value rs τ)) q ≡ false
unnamed-and_value no_more τ q e f = neither (bytes_eq q (codes "value")) false f refl
unnamed-and_value (row k need σ rs) τ q e f =
    let both = or_parts (bytes_eq q k) (is_named (names_of rs) q) e in
    neither (bytes_eq q k) (is_named (names_of (and_value rs τ)) q) both.0 (unnamed-and_value rs τ q both.1 f)

-- the names of the rows do not depend on the term of `value`
pub names-and_value : (rs : Rows) (σ τ : Term) → names_of (and_value rs σ) ≡ names_of (and_value rs τ)
names-and_value no_more σ τ = refl
names-and_value (row k need ρ rs) σ τ = ap (◌∷◌ k) (names-and_value rs σ τ)

-- ---- laws

module _ {H : Type 0} (s : SiblingsOf H) where
  siblings : (t : Node) → without (names_of s.rows) (member (codes "value") t no_members) ≡ member (codes "value") t no_members
  siblings t = rw s.free refl

  parts_at : (h : H) (t : Node) → s.well h → PartsAt s.rows (s.parts h) (joined s.rows (s.parts h) (member (codes "value") t no_members))
  parts_at h t w =
      PartsAt-joined s.rows (s.parts h) (member (codes "value") t no_members) s.once (Aligned-PartsFit s.rows (s.parts h) (s.parts_fit h w))
      (unnamed (names_of s.rows) (member (codes "value") t no_members) (siblings t))

  value_at : (h : H) (t : Node) → get_member (codes "value") (joined s.rows (s.parts h) (member (codes "value") t no_members)) ≡ Some t
  value_at h t = at-joined_other s.rows (s.parts h) (member (codes "value") t no_members) (codes "value") s.free

  -- the map fits if its `value` fits
  pub around_fits : (h : H) (t : Node) (τ : Term) → s.well h → Fits t τ → Fits (around s h t) (holding s τ)
  around_fits h t τ w f =
      let ms = joined s.rows (s.parts h) (member (codes "value") t no_members) in
      let ks = names_of (and_value s.rows τ) in
      let others : without ks ms ≡ no_members =
      without_joined_among ks s.rows (s.parts h) (member (codes "value") t no_members) (named-and_value s.rows τ) ∙ (rw (value_named s.rows τ) refl) in
      fits_map ms (and_value s.rows τ) closed
      (RowsFit-and_value s.rows τ ms t (RowsFit-PartsAt s.rows (s.parts h) ms (parts_at h t w) (s.parts_fit h w)) (value_at h t) f) others

  -- the `value` of a map that fits fits its term
  pub value_inside : (h : H) (t : Node) (τ : Term) → Fits (around s h t) (holding s τ) → Fits t τ
  value_inside h t τ f =
      let ms = joined s.rows (s.parts h) (member (codes "value") t no_members) in
      subst (PartFits required τ) (value_at h t) (value_fits s.rows τ ms (map_inside f).0)

  -- equal maps have equal members beside `value`, and an equal `value`
  pub around_one : (g h : H) (t u : Node) → s.well g → s.well h → around s g t ≡ around s h u → s.same g h × (t ≡ u)
  around_one g h t u v w e =
      let p = map_one s.rows (s.parts g) (s.parts h) (member (codes "value") t no_members) (member (codes "value") u no_members) s.once
      (Aligned-PartsFit s.rows (s.parts g) (s.parts_fit g v)) (Aligned-PartsFit s.rows (s.parts h) (s.parts_fit h w)) (siblings t) (siblings u) e in
      (s.one g h v w p.0, let same : member (codes "value") t no_members ≡ member (codes "value") u no_members = p.1 in cc)

  -- the map has no Odd in it if its `value` has none
  pub around_no_odd : (h : H) (t : Node) → s.well h → has_odd t ≡ false → has_odd (around s h t) ≡ false
  around_no_odd h t w e = no_odd-joined s.rows (s.parts h) (member (codes "value") t no_members) s.deepest (s.whole h w) (or_from (has_odd t) false e refl)

  -- the `value` has fewer levels than the map
  pub value_levels : (h : H) (t : Node) → levels t < levels (around s h t)
  value_levels h t =
      let inside = member_levels (codes "value") t (joined s.rows (s.parts h) (member (codes "value") t no_members)) (value_at h t) in
      omega (arith, inside)

-- the members beside a `value`, given as a table of fields that takes no further members
abbrev pub siblings_by : {F H : Type 0} (t : Table F) (ks : List (List ℕ)) (m : H → F) → ((f g : F) → t.others f ≡ t.others g)
    → distinct (names_of (t.rows ks [])) ≡ true → list_any (bytes_eq (codes "value")) (names_of (t.rows ks [])) ≡ false → SiblingsOf H
siblings_by t ks m alone once free = record {
  rows = t.rows ks [];
  parts = λ h. t.parts [] (m h);
  well = λ h. t.well (m h);
  same = λ g h. t.same (m g) (m h);
  once = once;
  free = free;
  parts_fit = λ h w. t.parts_fit ks [] (m h) w;
  one = λ g h a b e. t.one [] (m g) (m h) a b e (alone (m g) (m h));
  deepest = t.deepest;
  whole = λ h w. t.whole [] (m h) w;
}
