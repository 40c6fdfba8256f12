-- What readers and writers of values that may hold others answer.
use Rattle.std.proofs.Common.{◌≡◌, ◌<◌, ◌≤◌, ◌+◌, ℕ, zero, suc, List, [], ◌∷◌, ◌++◌, take, map, length, get_or, refl, sym, ap, ◌∙◌, arith}
use Rattle.std.proofs.Common.{Option, Some, None, Bor, MatchOption, ◌⊎◌, inl, inr, codes, subst, Result, Ok, Err, IfOk, Vec, Global}
use Rattle.std.proofs.lemmas.List.{map-append}
use Rattle.std.specs.List.{AllByRecursion}
use Rattle.std.specs.declared.alloc.AllocError.{AllocError}
use Rattle.bidi_tree.specs.Node as kind
use Rattle.bidi_tree.specs.Node.{Node, Items, no_items, item, levels, items_levels}
use Rattle.bidi_tree.specs.Kind.{list_in}
use Rattle.bidi_shape.specs.ListLaws.{two_items as length_of_two}
use Rattle.bidi_tree.specs.View.{items_of}
use Rattle.bidi_tree.specs.Outline.{outline_node, outline_items}
use Rattle.bidi_tree.specs.declared.outline.Outline.{Outline}
use Rattle.bidi_shape.specs.Term.{Term, map_of, closed, rule, list_of, pair_of, either, text}
use Rattle.bidi_shape.specs.Parts.{joined}
use Rattle.bidi_shape.specs.Fits.{Fits, AllFit, fits_pair}
use Rattle.bidi_shape.specs.Value.{ShapeOf}
use Rattle.bidi_shape.proofs.FitsLemmas.{list_inside, rule_inside}
use Rattle.bidi_shape.specs.InnerLaws.{same_items}
use Rattle.bidi_values.specs.SiblingLaws.{SiblingsOf, and_value, around, holding, value_inside, value_levels}
use Rattle.bidi_values.specs.Content.{content, list, pairs, pair_content, contents_of, pairs_of, content-Plain, content-List, content-Pairs}
use Rattle.bidi_values.specs.NestedLaws.{NestingOf, SameSiblings, Agrees, value_tree, values_tree, pairs_tree, pair_node, PartsAreWell}
use Rattle.bidi_values.specs.NestedLaws.{ValuesAreWell, PairsAreWell, IsWell, Same, value_one, same_pair, value_fits_inside}
use Rattle.bidi_values.specs.View.{nested_tree, nested_pair_tree, NestedIsWell, NestedPairIsWell}
use Rattle.bidi_values.specs.declared.nested.Nested.{Nested, Plain as PlainOf, List as ListOf, Pairs as PairsOf}
use Rattle.bidi_values.specs.declared.nested.NestedPair.{NestedPair}

one_more : {B C : Type 0} (g : B → C) (ys : List B) (i : ℕ) (d : B) → i < length ys → map g (take (suc i) ys) ≡ map g (take i ys) ++ g (get_or ys i d) ∷ []
one_more g [] i d h = absurd (omega arith)
one_more g (y ∷ ys) zero d h = refl
one_more g (y ∷ ys) (suc i) d h = ap (◌∷◌ (g y)) (one_more g ys i d (omega arith))

-- one more item on both sides
pub gathered : {A B C : Type 0} (f : A → C) (g : B → C) (done : List A) (x : A) (ys : List B) (i : ℕ) (d : B)
    → i < length ys → map f done ≡ map g (take i ys) → f x ≡ g (get_or ys i d)
    → map f (done ++ x ∷ []) ≡ map g (take (i + 1) ys)
gathered f g done x ys i d h e same =
    map-append f done (x ∷ []) ∙ ap (λ l. l ++ f x ∷ []) e ∙ ap (λ y. map g (take i ys) ++ y ∷ []) same
    ∙ sym (one_more g ys i d h) ∙ ap (λ k. map g (take k ys)) (let next : suc i ≡ i + 1 = omega arith in next)

each_and_one : {A : Type 0} (W : A → Type 0) (done : List A) (x : A) → AllByRecursion W done → W x → AllByRecursion W (done ++ x ∷ [])
each_and_one W [] x all w = (w, tt)
each_and_one W (y ∷ done) x all w = (all.0, each_and_one W done x all.1 w)

-- the same of copies, each of which is well
pub copies_gathered : {A C : Type 0} (f : A → C) (W : A → Type 0) (done after : List A) (x : A) (ys : List A) (i : ℕ) (d : A)
    → after ≡ done ++ x ∷ [] → i < length ys
    → (map f done ≡ map f (take i ys)) × AllByRecursion W done
    → f x ≡ f (get_or ys i d) → W x → (map f after ≡ map f (take (i + 1) ys)) × AllByRecursion W after
copies_gathered f W done after x ys i d is h e same w =
    (ap (map f) is ∙ gathered f f done x ys i d h e.0 same, subst (AllByRecursion W) (sym is) (each_and_one W done x e.1 w))

-- ---- what stands beside, as the rule sees it

around_same : {H : Type 0} {a b : SiblingsOf H} (e : SameSiblings a b) (h : H) (t : Node) → around a h t ≡ around b h t
around_same {a = a} {b = b} e h t =
    ap (λ rs. kind.map (joined rs (a.parts h) (kind.member (codes "value") t kind.no_members))) e.rows
    ∙ ap (λ ps. kind.map (joined b.rows ps (kind.member (codes "value") t kind.no_members))) (e.parts h)

holding_same : {H : Type 0} {a b : SiblingsOf H} (e : SameSiblings a b) (τ : Term) → holding a τ ≡ holding b τ
holding_same e τ = ap (λ rs. map_of (and_value rs τ) closed) e.rows

-- ---- lists of values and pairs

module _ {P L M : Type 0} (n : NestingOf P L M) where
  values_tree-of : (vs : List (Nested P L M)) → values_tree n (contents_of (map content vs)) ≡ items_of (map (nested_tree n) vs)
  values_tree-of [] = refl
  values_tree-of (v ∷ vs) = ap (item (nested_tree n v)) (values_tree-of vs)

  pairs_tree-of : (ps : List (NestedPair P L M)) → pairs_tree n (pairs_of (map pair_content ps)) ≡ items_of (map (nested_pair_tree n) ps)
  pairs_tree-of [] = refl
  pairs_tree-of (p ∷ ps) = ap (item (nested_pair_tree n p)) (pairs_tree-of ps)

  values_well-of : (vs : List (Nested P L M)) → AllByRecursion (NestedIsWell n) vs → ValuesAreWell n (contents_of (map content vs))
  values_well-of [] w = tt
  values_well-of (v ∷ vs) w = (w.0, values_well-of vs w.1)

  pairs_well-of : (ps : List (NestedPair P L M)) → AllByRecursion (NestedPairIsWell n) ps → PairsAreWell n (pairs_of (map pair_content ps))
  pairs_well-of [] w = tt
  pairs_well-of (p ∷ ps) w = (w.0, pairs_well-of ps w.1)

  -- and of a list that is well each value is
  values_well-each : (vs : List (Nested P L M)) → ValuesAreWell n (contents_of (map content vs)) → AllByRecursion (NestedIsWell n) vs
  values_well-each [] w = tt
  values_well-each (v ∷ vs) w = (w.0, values_well-each vs w.1)

  pairs_well-each : (ps : List (NestedPair P L M)) → PairsAreWell n (pairs_of (map pair_content ps)) → AllByRecursion (NestedPairIsWell n) ps
  pairs_well-each [] w = tt
  pairs_well-each (p ∷ ps) w = (w.0, pairs_well-each ps w.1)

  pub plain_well : (v : Nested P L M) (p : P) → v ≡ PlainOf p → NestedIsWell n v → n.plain.well p
  plain_well v p is w = subst (PartsAreWell n) (ap content is ∙ content-Plain p) w

  pub list_well : (v : Nested P L M) (h : L) (vs : Vec (Nested P L M) Global)
      → v ≡ ListOf h vs → NestedIsWell n v → n.list.well h × AllByRecursion (NestedIsWell n) vs.items
  list_well v h vs is w =
      let parts : PartsAreWell n (list h (contents_of (map content vs.items))) = subst (PartsAreWell n) (ap content is ∙ content-List h vs) w in
      (parts.0, values_well-each vs.items parts.1)

  pub pairs_well : (v : Nested P L M) (h : M) (ps : Vec (NestedPair P L M) Global)
      → v ≡ PairsOf h ps → NestedIsWell n v → n.pairs.well h × AllByRecursion (NestedPairIsWell n) ps.items
  pairs_well v h ps is w =
      let parts : PartsAreWell n (pairs h (pairs_of (map pair_content ps.items))) = subst (PartsAreWell n) (ap content is ∙ content-Pairs h ps) w in
      (parts.0, pairs_well-each ps.items parts.1)

  -- the tree of a list of values is the map around theirs
  pub list_tree : (h : L) (vs : Vec (Nested P L M) Global) (ts : List Node)
      → map (nested_tree n) vs.items ≡ ts → nested_tree n (ListOf h vs) ≡ around n.list h (kind.list (items_of ts))
  list_tree h vs ts e = ap (value_tree n) (content-List h vs) ∙ ap (λ x. around n.list h (kind.list x)) (values_tree-of vs.items ∙ ap items_of e)

  pub pairs_list_tree : (h : M) (ps : Vec (NestedPair P L M) Global) (ts : List Node)
      → map (nested_pair_tree n) ps.items ≡ ts → nested_tree n (PairsOf h ps) ≡ around n.pairs h (kind.list (items_of ts))
  pairs_list_tree h ps ts e = ap (value_tree n) (content-Pairs h ps) ∙ ap (λ x. around n.pairs h (kind.list x)) (pairs_tree-of ps.items ∙ ap items_of e)

  -- what is well and has the tree of a value within the cap is that value
  pub same_if_well : (r : Result (Nested P L M) AllocError) (v : Nested P L M)
      → IsWell n (content v) → IfOk r (λ w. (nested_tree n w ≡ nested_tree n v) × NestedIsWell n w)
      → IfOk r (λ w. IsWell n (content w)) × IfOk r (λ w. Same n (content w) (content v))
  same_if_well (Ok w) v well p =
      let cap = subst (λ t. levels t ≤ 60) (sym p.0) well.cap in
      (record { parts = p.1; cap = cap }, value_one n (content w) (content v) p.1 well.parts cap well.cap p.0)
  same_if_well (Err e) v well p = (tt, tt)

  module _ {s : ShapeOf P} {l : SiblingsOf L} {m : SiblingsOf M} (a : Agrees n s l m) where
    -- ---- writers

    pub plain_outlined : (r : Result Outline AllocError) (v : Nested P L M) (p : P)
        → v ≡ PlainOf p → IfOk r (λ d. outline_node d ≡ s.tree_of p) → IfOk r (λ d. outline_node d ≡ nested_tree n v)
    plain_outlined (Ok t) v p is e = e ∙ a.tree p ∙ sym (ap (value_tree n) (content-Plain p)) ∙ ap (nested_tree n) (sym is)
    plain_outlined (Err x) v p is e = tt

    pub list_outlined : (r : Result Outline AllocError) (v : Nested P L M) (h : L) (vs : Vec (Nested P L M) Global) (outlines : Vec Outline Global) → v ≡ ListOf h vs
        → map outline_node outlines.items ≡ map (nested_tree n) vs.items
        → IfOk r (λ d. outline_node d ≡ around l h (kind.list (outline_items outlines.items))) → IfOk r (λ d. outline_node d ≡ nested_tree n v)
    list_outlined (Ok t) v h vs outlines is e p =
        p ∙ around_same a.list h (kind.list (outline_items outlines.items))
        ∙ sym (list_tree h vs (map outline_node outlines.items) (sym e)) ∙ ap (nested_tree n) (sym is)
    list_outlined (Err x) v h vs outlines is e p = tt

    pub pairs_outlined : (r : Result Outline AllocError) (v : Nested P L M) (h : M) (ps : Vec (NestedPair P L M) Global) (outlines : Vec Outline Global)
        → v ≡ PairsOf h ps
        → map outline_node outlines.items ≡ map (nested_pair_tree n) ps.items
        → IfOk r (λ d. outline_node d ≡ around m h (kind.list (outline_items outlines.items))) → IfOk r (λ d. outline_node d ≡ nested_tree n v)
    pairs_outlined (Ok t) v h ps outlines is e p =
        p ∙ around_same a.pairs h (kind.list (outline_items outlines.items))
        ∙ sym (pairs_list_tree h ps (map outline_node outlines.items) (sym e)) ∙ ap (nested_tree n) (sym is)
    pairs_outlined (Err x) v h ps outlines is e p = tt

    -- ---- copies

    pub plain_copied : (v : Nested P L M) (p q : P) → v ≡ PlainOf p → n.plain.tree_of q ≡ n.plain.tree_of p
        → n.plain.well q → (nested_tree n (PlainOf q) ≡ nested_tree n v) × NestedIsWell n (PlainOf q)
    plain_copied v p q is e w = (
      ap (value_tree n) (content-Plain q) ∙ e ∙ sym (ap (value_tree n) (content-Plain p)) ∙ ap (nested_tree n) (sym is),
      subst (PartsAreWell n) (sym (content-Plain q)) w,
    )

    pub list_copied : (v : Nested P L M) (h i : L) (vs ws : Vec (Nested P L M) Global)
        → v ≡ ListOf h vs → NestedIsWell n v → l.parts i ≡ l.parts h → (l.well h → l.well i)
        → map (nested_tree n) ws.items ≡ map (nested_tree n) vs.items
        → AllByRecursion (NestedIsWell n) ws.items → (nested_tree n (ListOf i ws) ≡ nested_tree n v) × NestedIsWell n (ListOf i ws)
    list_copied v h i vs ws is w same go e each = (
      list_tree i ws (map (nested_tree n) vs.items) e
          ∙ ap (λ ps. kind.map (joined n.list.rows ps (kind.member (codes "value") (kind.list (items_of (map (nested_tree n) vs.items))) kind.no_members)))
          (sym (a.list.parts i) ∙ same ∙ a.list.parts h)
          ∙ sym (list_tree h vs (map (nested_tree n) vs.items) refl) ∙ ap (nested_tree n) (sym is),
      subst (PartsAreWell n) (sym (content-List i ws)) (a.list.well i (go (a.list.well_there h (list_well v h vs is w).0)), values_well-of ws.items each),
    )

    pub pairs_copied : (v : Nested P L M) (h i : M) (ps qs : Vec (NestedPair P L M) Global)
        → v ≡ PairsOf h ps → NestedIsWell n v → m.parts i ≡ m.parts h → (m.well h → m.well i)
        → map (nested_pair_tree n) qs.items ≡ map (nested_pair_tree n) ps.items → AllByRecursion (NestedPairIsWell n) qs.items
        → (nested_tree n (PairsOf i qs) ≡ nested_tree n v) × NestedIsWell n (PairsOf i qs)
    pairs_copied v h i ps qs is w same go e each = (
      pairs_list_tree i qs (map (nested_pair_tree n) ps.items) e
          ∙ ap (λ rs. kind.map (joined n.pairs.rows rs (kind.member (codes "value") (kind.list (items_of (map (nested_pair_tree n) ps.items)))
          kind.no_members))) (sym (a.pairs.parts i) ∙ same ∙ a.pairs.parts h)
          ∙ sym (pairs_list_tree h ps (map (nested_pair_tree n) ps.items) refl) ∙ ap (nested_tree n) (sym is),
      subst (PartsAreWell n) (sym (content-Pairs i qs)) (a.pairs.well i (go (a.pairs.well_there h (pairs_well v h ps is w).0)), pairs_well-of qs.items each),
    )

    -- ---- readers

    pub plain_read : (p : P) (t : Node) → s.tree_of p ≡ t → s.well p → (nested_tree n (PlainOf p) ≡ t) × NestedIsWell n (PlainOf p)
    plain_read p t e w = (ap (value_tree n) (content-Plain p) ∙ sym (a.tree p) ∙ e, subst (PartsAreWell n) (sym (content-Plain p)) (a.well p w))

    pub list_read : {X : Type 0} (tree : X → Node) (h : L) (vs : Vec (Nested P L M) Global) (items : List X) (t : Node)
        → around l h (kind.list (items_of (map tree items))) ≡ t → l.well h
        → map (nested_tree n) vs.items ≡ map tree items
        → AllByRecursion (NestedIsWell n) vs.items → (nested_tree n (ListOf h vs) ≡ t) × NestedIsWell n (ListOf h vs)
    list_read tree h vs items t is w e ws = (
      list_tree h vs (map tree items) e ∙ sym (around_same a.list h (kind.list (items_of (map tree items)))) ∙ is,
      subst (PartsAreWell n) (sym (content-List h vs)) (a.list.well h w, values_well-of vs.items ws),
    )

    pub pairs_read : {X : Type 0} (tree : X → Node) (h : M) (ps : Vec (NestedPair P L M) Global) (items : List X) (t : Node)
        → around m h (kind.list (items_of (map tree items))) ≡ t → m.well h
        → map (nested_pair_tree n) ps.items ≡ map tree items
        → AllByRecursion (NestedPairIsWell n) ps.items → (nested_tree n (PairsOf h ps) ≡ t) × NestedIsWell n (PairsOf h ps)
    pairs_read tree h ps items t is w e ws = (
      pairs_list_tree h ps (map tree items) e ∙ sym (around_same a.pairs h (kind.list (items_of (map tree items)))) ∙ is,
      subst (PartsAreWell n) (sym (content-Pairs h ps)) (a.pairs.well h w, pairs_well-of ps.items ws),
    )

    -- a list of which an item does not fit
    pub list_misfit : (h : L) (items : Items) (t : Node)
        → around l h (kind.list items) ≡ t → l.well h → (AllFit items (rule n.values) → ⊥) → Fits t (rule n.values) → ⊥
    list_misfit h items t is w bad f = by_kind (n.one_of t (value_fits_inside n t f))
      where
        here : around n.list h (kind.list items) ≡ t
        here = sym (around_same a.list h (kind.list items)) ∙ is

        by_kind : Fits t n.plain.rule ⊎ (Fits t (holding n.list (list_of 0 (rule n.values))) ⊎ Fits t (holding n.pairs (list_of 0 (rule n.pair_rule)))) → ⊥
        by_kind (inl f) = n.list_not_plain h (kind.list items) (a.list.well h w) (subst (λ x. Fits x n.plain.rule) (sym here) f)
        by_kind (inr (inl f)) =
            bad (list_inside (value_inside n.list h (kind.list items) (list_of 0 (rule n.values))
            (subst (λ x. Fits x (holding n.list (list_of 0 (rule n.values)))) (sym here) f))).1
        by_kind (inr (inr f)) =
            n.list_not_pairs h (kind.list items) (a.list.well h w) (subst (λ x. Fits x (holding n.pairs (list_of 0 (rule n.pair_rule)))) (sym here) f)

    pub pairs_misfit : (h : M) (items : Items) (t : Node)
        → around m h (kind.list items) ≡ t → m.well h → (AllFit items (rule n.pair_rule) → ⊥) → Fits t (rule n.values) → ⊥
    pairs_misfit h items t is w bad f = by_kind (n.one_of t (value_fits_inside n t f))
      where
        here : around n.pairs h (kind.list items) ≡ t
        here = sym (around_same a.pairs h (kind.list items)) ∙ is

        by_kind : Fits t n.plain.rule ⊎ (Fits t (holding n.list (list_of 0 (rule n.values))) ⊎ Fits t (holding n.pairs (list_of 0 (rule n.pair_rule)))) → ⊥
        by_kind (inl f) = n.pairs_not_plain h (kind.list items) (a.pairs.well h w) (subst (λ x. Fits x n.plain.rule) (sym here) f)
        by_kind (inr (inl f)) =
            n.pairs_not_list h (kind.list items) (a.pairs.well h w) (subst (λ x. Fits x (holding n.list (list_of 0 (rule n.values)))) (sym here) f)
        by_kind (inr (inr f)) =
            bad (list_inside (value_inside n.pairs h (kind.list items) (list_of 0 (rule n.pair_rule))
            (subst (λ x. Fits x (holding n.pairs (list_of 0 (rule n.pair_rule)))) (sym here) f))).1

    -- what is none of the three
    pub no_value : (t : Node) → ((τ : Term) → Fits t (holding l (list_of 0 τ)) → ⊥)
        → ((τ : Term) → Fits t (holding m (list_of 0 τ)) → ⊥) → (Fits t s.rule → ⊥) → Fits t (rule n.values) → ⊥
    no_value t no_list no_pairs no_plain f = by_kind (n.one_of t (value_fits_inside n t f))
      where
        by_kind : Fits t n.plain.rule ⊎ (Fits t (holding n.list (list_of 0 (rule n.values))) ⊎ Fits t (holding n.pairs (list_of 0 (rule n.pair_rule)))) → ⊥
        by_kind (inl f) = no_plain (subst (Fits t) (sym a.rule) f)
        by_kind (inr (inl f)) = no_list (rule n.values) (subst (Fits t) (sym (holding_same a.list (list_of 0 (rule n.values)))) f)
        by_kind (inr (inr f)) = no_pairs (rule n.pair_rule) (subst (Fits t) (sym (holding_same a.pairs (list_of 0 (rule n.pair_rule)))) f)

  -- ---- pairs

  pair_inside : {t : Node} → Fits t (rule n.pair_rule)
      → (u : Node) × (v : Node) × (t ≡ pair_node u v) × Fits u (either (rule n.values) text) × Fits v (rule n.values)
  pair_inside {t} f = of_pair (subst (Fits t) n.is_pair (rule_inside f))
    where
      of_pair : {t : Node} {σ τ : Term} → Fits t (pair_of σ τ) → (u : Node) × (v : Node) × (t ≡ pair_node u v) × Fits u σ × Fits v τ
      of_pair (fits_pair u v σ τ f g) = (u, v, refl, f, g)

  -- a list of two whose key or value does not fit
  pub key_misfit : (t u v : Node) → t ≡ pair_node u v → (Fits u (either (rule n.values) text) → ⊥) → Fits t (rule n.pair_rule) → ⊥
  key_misfit t u v is bad f = let p = pair_inside f in bad (subst (λ x. Fits x (either (rule n.values) text)) (same_pair (sym p.2 ∙ is)).0 p.3)

  pub value_misfit : (t u v : Node) → t ≡ pair_node u v → (Fits v (rule n.values) → ⊥) → Fits t (rule n.pair_rule) → ⊥
  value_misfit t u v is bad f = let p = pair_inside f in bad (subst (λ x. Fits x (rule n.values)) (same_pair (sym p.2 ∙ is)).1 p.4)

  pub no_pair : (t : Node) → ((u v : Node) → t ≡ pair_node u v → ⊥) → Fits t (rule n.pair_rule) → ⊥
  no_pair t bad f = let p = pair_inside f in bad p.0 p.1 p.2

-- ---- levels

pub list_levels : {H : Type 0} (s : SiblingsOf H) (h : H) (items : Items) (t : Node) → around s h (kind.list items) ≡ t → items_levels items + 1 < levels t
list_levels s h items t is = subst (λ x. items_levels items + 1 < levels x) is (let below = value_levels s h (kind.list items) in omega (arith, below))

pub pair_levels : (t u v : Node) → t ≡ pair_node u v → (levels u < levels t) × (levels v < levels t)
pair_levels t u v is = subst (λ x. (levels u < levels x) × (levels v < levels x)) (sym is) (omega arith, omega arith)

-- ---- lists of two

list_again : (t : Node) (ts : Items) → Some ts ≡ list_in t → t ≡ kind.list ts
list_again kind.null ts e = cc
list_again (kind.boolean b) ts e = cc
list_again (kind.whole z) ts e = cc
list_again kind.odd ts e = cc
list_again (kind.text s) ts e = cc
list_again (kind.list us) ts e = cc
list_again (kind.map ms) ts e = cc

-- the items of a list, where they are two
pub two_read : {X : Type 0} (tree : X → Node) (r : Option (Bor X × Bor X)) (t : Node) (items : List X)
    → Some (items_of (map tree items)) ≡ list_in t → MatchOption r (length items ≡ 2 → ⊥) (λ p. items ≡ p.0.now ∷ p.1.now ∷ [])
    → MatchOption r ((u v : Node) → t ≡ pair_node u v → ⊥) (λ p. t ≡ pair_node (tree p.0.now) (tree p.1.now))
two_read tree None t items is no_two = λ u v e. no_two (length_of_two tree items u v (same_items (sym (list_again t (items_of (map tree items)) is) ∙ e)))
two_read tree (Some p) t items is two = list_again t (items_of (map tree items)) is ∙ ap (λ x. kind.list (items_of (map tree x))) two
