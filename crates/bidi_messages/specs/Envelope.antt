-- Objects that carry a payload: `{ NAME: X, method: "M", params: P, Extensible }`, one alternative for each M. After WebDriver BiDi, "Protocol".
use Rattle.std.proofs.Common.{◌≡◌, ℕ, suc, max, List, [], ◌∷◌, codes, Bool, true, false, Option, Some}
use Rattle.std.proofs.Common.{None, if◌then◌else◌, refl, zero-le, sym, subst, bytes_eq, arith}
use Rattle.bidi_tree.specs.Node as tree
use Rattle.bidi_tree.specs.Node.{Node, Members, put, IsWhole}
use Rattle.bidi_shape.specs.Term.{Term, required, extensible, exactly, map_of, either, Rows, no_more, row}
use Rattle.bidi_shape.specs.Fits.{Fits, fits_exactly, fits_first, fits_second}
use Rattle.bidi_shape.specs.Parts.{distinct}
use Rattle.bidi_shape.specs.Value.{ShapeOf}
use Rattle.bidi_shape.specs.ValueLaws.{others_of}
use Rattle.bidi_shape.specs.WholeLaws.{whole_within, map_whole}
use Rattle.bidi_shape.specs.MapLaws.{map_fits, map_one}
use Rattle.bidi_shape.specs.Table.{TableWell, unfolded, unfolded_fits, same_head, same_tail, same_some}
use Rattle.bidi_shape.specs.ThroughLaws.{fits_named}
use Rattle.bidi_shape.specs.WordLaws.{Word, Words, value_named, word_one}
use Rattle.bidi_shape.specs.declared.ext.Ext.{Ext}
use Rattle.bidi_methods.specs.Payload.{PayloadOf}
use Rattle.bidi_shape.specs.Limits.{most_levels}

-- ---- one alternative for each of some values

-- the choice of the terms of some values, one after the other
abbrev pub one_each : {K : Type 0} → (K → Term) → Word K → List (Word K) → Term
one_each f w [] = f w.value
one_each f w (x ∷ xs) = either (f w.value) (one_each f x xs)

last_fits : {K : Type 0} (b : Bool) (f : K → Term) (w : Word K) (k : K) (t : Node)
    → (if b then Some w.value else None) ≡ Some k → Fits t (f k) → Fits t (f w.value)
last_fits true f w k t e fit = subst (λ x. Fits t (f x)) (sym (same_some e)) fit
last_fits false f w k t e fit = cc

each_at : {K : Type 0} (b : Bool) (f : K → Term) (w : Word K) (rest : Option K) (σ : Term) (k : K) (t : Node)
    → (if b then Some w.value else rest) ≡ Some k → (rest ≡ Some k → Fits t σ)
    → Fits t (f k) → Fits t (either (f w.value) σ)
each_at true f w rest σ k t e later fit = fits_first t (f w.value) σ (subst (λ x. Fits t (f x)) (sym (same_some e)) fit)
each_at false f w rest σ k t e later fit = fits_second t (f w.value) σ (later e)

-- a tree that fits the term of a value in the table fits the choice
each_fits : {K : Type 0} (f : K → Term) (w : Word K) (xs : List (Word K)) (s : List ℕ) (k : K) (t : Node)
    → value_named w xs s ≡ Some k → Fits t (f k) → Fits t (one_each f w xs)
each_fits f w [] s k t e fit = last_fits (bytes_eq s w.text) f w k t e fit
each_fits f w (x ∷ xs) s k t e fit =
    each_at (bytes_eq s w.text) f w (value_named x xs s) (one_each f x xs) k t e (λ later. each_fits f x xs s k t later fit) fit

split : {t : Node} {σ τ : Term} {P : Type 0} → (Fits t σ → P) → (Fits t τ → P) → Fits t (either σ τ) → P
split f g (fits_first t σ τ h) = f h
split f g (fits_second t σ τ h) = g h

-- a tree that fits the choice fits the term of some value
some_fits : {K : Type 0} (f : K → Term) (w : Word K) (xs : List (Word K)) (t : Node) → Fits t (one_each f w xs) → (k : K) × Fits t (f k)
some_fits f w [] t fit = (w.value, fit)
some_fits f w (x ∷ xs) t fit = split (λ h. (w.value, h)) (some_fits f x xs t) fit

-- ---- the maps

-- the rows `NAME: X, method: "M", params: P`
abbrev pub envelope_rows : List ℕ → Term → List ℕ → Term → Rows
envelope_rows name τ text ρ = row name required τ (row (codes "method") required (exactly text) (row (codes "params") required ρ no_more))

-- the names of the first member, of `method` and of `params`
abbrev pub envelope_names : List ℕ → List (List ℕ)
envelope_names name = name ∷ codes "method" ∷ codes "params" ∷ []

module _ {X D K : Type 0} (name : List ℕ) (s : ShapeOf X) (w : Words K) (d : PayloadOf D K) where
  -- the rows of the objects of one kind
  abbrev pub rows_of : K → Rows
  rows_of k = envelope_rows name s.rule (w.text_of k) (d.rule k)

  -- the choice of the objects of all kinds, one alternative for each
  abbrev pub envelope_term : Term
  envelope_term = one_each (λ k. map_of (rows_of k) extensible) w.first w.rest

  -- the object of a first member, a payload and further members
  abbrev pub envelope_tree : X → D → Ext → Node
  envelope_tree x v e =
      tree.map (put name (s.tree_of x) (put (codes "method") (tree.text (w.text_of (d.kind v))) (put (codes "params") (d.tree_of v) (others_of e))))

  -- the object is valid: its first member and its payload are valid, and no further member has a known name
  pub record EnvelopeIsWell (x : X) (v : D) (e : Ext) : Type 0 where
    pub head : s.well x
    pub payload : d.well v
    pub others : TableWell (rows_of (d.kind v)) extensible (others_of e)

  -- ---- laws

  -- the parts of the first member, of `method` and of `params`
  abbrev pub parts_of : X → D → List (Option Node)
  parts_of x v = Some (s.tree_of x) ∷ Some (tree.text (w.text_of (d.kind v))) ∷ Some (d.tree_of v) ∷ []

  -- a tree that fits the rule is an object of some kind
  pub envelope_inside : (ρ : Term) → unfolded ρ ≡ envelope_term → (t : Node) → Fits t ρ → (k : K) × Fits t (map_of (rows_of k) extensible)
  envelope_inside ρ is t f = some_fits (λ k. map_of (rows_of k) extensible) w.first w.rest t (subst (Fits t) is (unfolded_fits t ρ f))

  pub envelope_fits : (ρ : Term) → unfolded ρ ≡ envelope_term
      → distinct (envelope_names name) ≡ true → (x : X) (v : D) (e : Ext) → EnvelopeIsWell x v e → Fits (envelope_tree x v e) ρ
  envelope_fits ρ is once x v e a =
      let k = d.kind v in
      fits_named (envelope_tree x v e) ρ envelope_term is
      (each_fits (λ i. map_of (rows_of i) extensible) w.first w.rest (w.text_of k) k (envelope_tree x v e) (w.names_it k)
      (map_fits (rows_of k) extensible (parts_of x v) (others_of e) once
      (s.fits x a.head, (fits_exactly (w.text_of k), (d.fits v a.payload, tt))) a.others.no_known a.others.may))

  pub envelope_one : distinct (envelope_names name) ≡ true
      → (x y : X) (u v : D) (e f : Ext) → EnvelopeIsWell x u e → EnvelopeIsWell y v f → envelope_tree x u e ≡ envelope_tree y v f
      → s.same x y × (d.same u v × (others_of e ≡ others_of f))
  envelope_one once x y u v e f a b is =
      let p = map_one (rows_of (d.kind u)) (parts_of x u) (parts_of y v) (others_of e) (others_of f) once tt tt a.others.no_known b.others.no_known is in
      let kind = word_one w (d.kind u) (d.kind v) (same_some (same_head (same_tail p.0))) in (
        s.one_value x y a.head b.head (same_some (same_head p.0)),
        (d.one_value u v a.payload b.payload kind (same_some (same_head (same_tail (same_tail p.0)))), p.1),
      )

  pub envelope_whole : (x : X) (v : D) (e : Ext) → EnvelopeIsWell x v e → IsWhole (envelope_tree x v e) (suc (max (max s.deepest d.deepest) most_levels))
  envelope_whole x v e a =
      let n = max s.deepest d.deepest in
      map_whole (rows_of (d.kind v)) extensible (parts_of x v) (others_of e) n (
        whole_within (s.tree_of x) s.deepest n (omega arith) (s.whole x a.head),
        ((refl, zero-le), (whole_within (d.tree_of v) d.deepest n (omega arith) (d.whole v a.payload), tt)),
      ) a.others.may

  -- the shape of a type whose values are objects that carry a payload
  abbrev pub envelope_shape : {V : Type 0} (ρ : Term) (m : V → X × (D × Ext)) → unfolded ρ ≡ envelope_term → distinct (envelope_names name) ≡ true → ShapeOf V
  envelope_shape ρ m is once = record {
    rule = ρ;
    tree_of = λ v. envelope_tree (m v).0 (m v).1.0 (m v).1.1;
    well = λ v. EnvelopeIsWell (m v).0 (m v).1.0 (m v).1.1;
    same = λ v u. s.same (m v).0 (m u).0 × (d.same (m v).1.0 (m u).1.0 × (others_of (m v).1.1 ≡ others_of (m u).1.1));
    fits = λ v a. envelope_fits ρ is once (m v).0 (m v).1.0 (m v).1.1 a;
    one_value = λ v u a b e. envelope_one once (m v).0 (m u).0 (m v).1.0 (m u).1.0 (m v).1.1 (m u).1.1 a b e;
    deepest = suc (max (max s.deepest d.deepest) most_levels);
    whole = λ v a. envelope_whole (m v).0 (m v).1.0 (m v).1.1 a;
  }
