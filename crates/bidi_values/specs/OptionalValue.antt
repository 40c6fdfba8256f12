-- A closed map that may have a `value`: it is the map without it, or the map that has it.
use Rattle.std.proofs.Common.{◌≡◌, ◌⊎◌, inl, inr, ℕ, List, ◌∷◌, codes, Bool, true, false, ◌||◌, cond, Option, Some, None}
use Rattle.std.proofs.Common.{Ordering, Less, Equal, Greater, nat_cmp, bytes_eq, true≢false, refl, sym, ap, ◌∙◌, subst}
use Rattle.std.proofs.lemmas.Slice.Eq.{bytes_eq-Decides}
use Rattle.std.specs.Cmp.Lexicographic.{slice_cmp}
use Rattle.std.specs.Ordering.{match_ordering}
use Rattle.std.specs.List.{list_any}
use Rattle.bidi_tree.specs.Node as node
use Rattle.bidi_tree.specs.Node.{Node, Members, no_members, member, get_member}
use Rattle.bidi_shape.specs.Term.{required, optional, Term, closed, map_of, Rows, no_more, row, names_of}
use Rattle.bidi_shape.specs.Fits.{Fits, fits_map, RowsFit, no_row, there, absent, without}
use Rattle.bidi_shape.specs.MapLaws.{at-without_other}
use Rattle.bidi_shape.specs.InnerLaws.{RowsFit-row}
use Rattle.bidi_values.specs.SiblingLaws.{is_named, and_value, or_kept}

-- the rows of the other members, and then a row for `value`, which is optional
abbrev pub and_value_or_not : Rows → Term → Rows
and_value_or_not no_more τ = row (codes "value") optional τ no_more
and_value_or_not (row k need σ rows) τ = row k need σ (and_value_or_not rows τ)

-- ---- names

more_names : (rs : Rows) (τ : Term) (q : List ℕ) → is_named (names_of rs) q ≡ true → is_named (names_of (and_value_or_not rs τ)) q ≡ true
more_names no_more τ q e = absurd (true≢false (sym e))
more_names (row k need σ rs) τ q e = or_kept (bytes_eq q k) (is_named (names_of rs) q) (is_named (names_of (and_value_or_not rs τ)) q) (more_names rs τ q) e

same_names : (rs : Rows) (τ : Term) → names_of (and_value rs τ) ≡ names_of (and_value_or_not rs τ)
same_names no_more τ = refl
same_names (row k need σ rs) τ = ap (◌∷◌ k) (same_names rs τ)

-- a name of both is `value`, or one of the others
other_name : (rs : Rows) (τ : Term) (q : List ℕ)
    → bytes_eq q (codes "value") ≡ false → is_named (names_of (and_value_or_not rs τ)) q ≡ true → is_named (names_of rs) q ≡ true
other_name no_more τ q d e = absurd (true≢false (sym e ∙ or_none (bytes_eq q (codes "value")) d))
  where
    or_none : (b : Bool) → b ≡ false → (b || false) ≡ false
    or_none b e = rw e refl
other_name (row k need σ rs) τ q d e = or_kept (bytes_eq q k) (is_named (names_of (and_value_or_not rs τ)) q) (is_named (names_of rs) q) (other_name rs τ q d) e

-- ---- the others

left_out : (b : Bool) (l : List ℕ) (t : Node) (ns : Members) → cond b ns (member l t ns) ≡ no_members → (b ≡ true) × (ns ≡ no_members)
left_out true l t ns e = (refl, e)
left_out false l t ns e = cc

left_out_still : (b : Bool) (l : List ℕ) (t : Node) (ns : Members) → b ≡ true → ns ≡ no_members → cond b ns (member l t ns) ≡ no_members
left_out_still b l t ns e f = rw e f

-- where no member is left, none is left of fewer
none_left : (ks qs : List (List ℕ)) → ((q : List ℕ) → is_named ks q ≡ true → is_named qs q ≡ true)
    → (ms : Members) → without ks ms ≡ no_members → without qs ms ≡ no_members
none_left ks qs more no_members e = refl
none_left ks qs more (member l t ms) e =
    let p = left_out (is_named ks l) l t (without ks ms) e in
    left_out_still (is_named qs l) l t (without qs ms) (more l p.0) (none_left ks qs more ms p.1)

not_there : (o : Ordering) (t : Node) (r : Option Node) → match_ordering o r (Some t) r ≡ None → r ≡ None
not_there Less t r e = e
not_there Equal t r e = cc
not_there Greater t r e = e

-- where no member is called `value`, each is one of the others
none_left_but : (rs : Rows) (τ : Term) (ms : Members) → get_member (codes "value") ms ≡ None
    → without (names_of (and_value_or_not rs τ)) ms ≡ no_members → without (names_of rs) ms ≡ no_members
none_left_but rs τ no_members n e = refl
none_left_but rs τ (member l t ms) n e =
    let p = left_out (is_named (names_of (and_value_or_not rs τ)) l) l t (without (names_of (and_value_or_not rs τ)) ms) e in
    let rest = none_left_but rs τ ms (not_there (slice_cmp nat_cmp (codes "value") l) t (get_member (codes "value") ms) n) p.1 in
    left_out_still (is_named (names_of rs) l) l t (without (names_of rs) ms) (other_name rs τ l (is_other (bytes_eq l (codes "value")) refl) p.0) rest
  where
    is_other : (b : Bool) → bytes_eq l (codes "value") ≡ b → bytes_eq l (codes "value") ≡ false
    is_other false e = e
    is_other true e = absurd (is_value ((bytes_eq-Decides l (codes "value")).0 e) n)
      where
        found : Some t ≡ None → ⊥
        found e = cc

        is_value : l ≡ codes "value" → get_member (codes "value") (member l t ms) ≡ None → ⊥
        is_value same none = found (subst (λ k. get_member (codes "value") (member k t ms) ≡ None) same none)

-- ---- rows

rows_without : (rs : Rows) (τ : Term) (ms : Members) → get_member (codes "value") ms ≡ None → RowsFit ms rs → RowsFit ms (and_value_or_not rs τ)
rows_without no_more τ ms n f = absent ms (codes "value") τ no_more n (no_row ms)
rows_without (row k need σ rs) τ ms n (there m l x ρ rest u e f more) = there m l x ρ (and_value_or_not rest τ) u e f (rows_without rest τ m n more)
rows_without (row k need σ rs) τ ms n (absent m l ρ rest e more) = absent m l ρ (and_value_or_not rest τ) e (rows_without rest τ m n more)

last_row : {τ : Term} {ms : Members} → RowsFit ms (row (codes "value") required τ no_more) → RowsFit ms (row (codes "value") optional τ no_more)
last_row (there m l x ρ rest u e f more) = there m l optional ρ rest u e f more

rows_with : (rs : Rows) (τ : Term) (ms : Members) → RowsFit ms (and_value rs τ) → RowsFit ms (and_value_or_not rs τ)
rows_with no_more τ ms f = last_row f
rows_with (row k need σ rs) τ ms f = RowsFit-row (rows_with rs τ ms) f

rows_head : (rs : Rows) (τ : Term) (ms : Members) → RowsFit ms (and_value_or_not rs τ) → RowsFit ms rs
rows_head no_more τ ms f = no_row ms
rows_head (row k need σ rs) τ ms f = RowsFit-row (rows_head rs τ ms) f

value_row : {τ : Term} {ms : Members} {t : Node} → get_member (codes "value") ms ≡ Some t
    → RowsFit ms (row (codes "value") optional τ no_more) → RowsFit ms (row (codes "value") required τ no_more)
value_row here (there m l x ρ rest u e f more) = there m l required ρ rest u e f more
value_row here (absent m l ρ rest e more) = absurd (none_some (sym e ∙ here))
  where
    none_some : {u : Node} → None ≡ Some u → ⊥
    none_some e = cc

rows_full : (rs : Rows) (τ : Term) (ms : Members) (t : Node)
    → get_member (codes "value") ms ≡ Some t → RowsFit ms (and_value_or_not rs τ) → RowsFit ms (and_value rs τ)
rows_full no_more τ ms t here f = value_row here f
rows_full (row k need σ rs) τ ms t here f = RowsFit-row (rows_full rs τ ms t here) f

-- ---- the maps

-- a map without `value` fits
pub fits_bare : (rs : Rows) (τ : Term) (t : Node)
    → list_any (bytes_eq (codes "value")) (names_of rs) ≡ false → Fits t (map_of rs closed) → Fits t (map_of (and_value_or_not rs τ) closed)
fits_bare rs τ t free (fits_map ms rows o f h) =
    let none : get_member (codes "value") ms ≡ None = sym (at-without_other (names_of rows) (codes "value") ms free) ∙ ap (get_member (codes "value")) h in
    fits_map ms (and_value_or_not rows τ) closed (rows_without rows τ ms none f)
    (none_left (names_of rows) (names_of (and_value_or_not rows τ)) (more_names rows τ) ms h)

-- a map with `value` fits
pub fits_full : (rs : Rows) (τ : Term) (t : Node) → Fits t (map_of (and_value rs τ) closed) → Fits t (map_of (and_value_or_not rs τ) closed)
fits_full rs τ t (fits_map ms rows o f h) =
    fits_map ms (and_value_or_not rs τ) closed (rows_with rs τ ms f) (ap (λ ks. without ks ms) (sym (same_names rs τ)) ∙ h)

-- a map that fits is one without `value`, or one with it
pub bare_or_full : (rs : Rows) (τ : Term) (t : Node)
    → Fits t (map_of (and_value_or_not rs τ) closed) → Fits t (map_of rs closed) ⊎ Fits t (map_of (and_value rs τ) closed)
bare_or_full rs τ t (fits_map ms rows o f h) = by_value (get_member (codes "value") ms) refl
  where
    by_value : (p : Option Node) → get_member (codes "value") ms ≡ p
        → Fits (node.map ms) (map_of rs closed) ⊎ Fits (node.map ms) (map_of (and_value rs τ) closed)
    by_value None e = inl (fits_map ms rs closed (rows_head rs τ ms f) (none_left_but rs τ ms e h))
    by_value (Some u) e = inr (fits_map ms (and_value rs τ) closed (rows_full rs τ ms u e f) (ap (λ ks. without ks ms) (same_names rs τ) ∙ h))
