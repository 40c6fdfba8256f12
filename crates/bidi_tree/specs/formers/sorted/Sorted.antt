-- `Sorted` as a type that a recursive type may contain, whose keys are names: its shape is a `Sorted` of shapes. Defined by this project.
use Rattle.std.specs.Prelude.{◌≡◌, List, [], ◌∷◌, map}
use Rattle.std.specs.List.Sorted.{IsStrictlySortedBy, IsStrictlySortedBy-prop}
use Rattle.std.specs.Map.{keys_of, values_of}
use mathlib.Core.Path.{PathP, refl, sym, ap, subst, ◌∙◌}
use mathlib.Core.HLevel.{is_prop→PathP}
use mathlib.Core.Former.{Former, Count, Row, over, this, const, pair, list, children}
use denote.RattleType.{RattleType}
use denote.Struct.Declared.{Declared}
use denote.Struct.Tuple.{Tuple, tuple_type}
use denote.Ref.{NamedLft}
use denote.Signature.{static_lft}
use denote.Text.{Str}
use denote.HoleLaws.{Alike}
use denote.HolePlaces.{Recodes, struct_places, struct_Codes, laid, stays}
use denote.Hole.Carrier.{listed}
use denote.Param.Weighed.{Weighed, most, List-puts, w_pair, w_const}
use Rattle.std.specs.formers.vec.Vec as vec
use Rattle.std.specs.declared.alloc.Global.{Global}
use Rattle.std.specs.declared.vec.Vec.{Vec}
use Rattle.std.specs.declared.cmp.Ord as ord
use Rattle.std.specs.declared.cmp.PartialEq as eq
use Rattle.std.specs.declared.cmp.PartialOrd as partial
use Rattle.std.specs.contracts.alloc.Global as heap
use Rattle.std.specs.contracts.impls.GlobalAllocator.TheImpl.{ghosts}
use Rattle.std.specs.contracts.prelude.RefStrOrd.TheImpl as order
use Rattle.std.specs.contracts.prelude.RefStrPartialEq.TheImpl as equality
use Rattle.std.specs.contracts.prelude.RefStrPartialOrd.TheImpl as partial_order
use Rattle.bidi_tree.specs.Named.{Name, Named}
use Rattle.bidi_tree.specs.contracts.sorted.Sorted as C

-- the former of a name with one of g's values, and of a `Vec` of these
abbrev entry : Former {0} → Former {0}
entry g = pair (const Name) g

abbrev entries : Former {0} → Former {0}
entries g = vec.the_former (entry g) Global

abbrev Entries : Type 0 → Type 0
Entries X = Vec (Name × X) Global

abbrev on_value : {X Y : Type 0} → (X → Y) → Name × X → Name × Y
on_value h e = (e.0, h e.1)

-- ---- the order does not depend on the values

abbrev Ascend : {X : Type 0} → List (Name × X) → Type 0
Ascend es = IsStrictlySortedBy order.ghosts.cmp (keys_of es)

names-map : {X Y : Type 0} (h : X → Y) (es : List (Name × X)) → keys_of (map (on_value h) es) ≡ keys_of es
names-map h [] = refl
names-map h (e ∷ es) = ap (λ ks. e.0 ∷ ks) (names-map h es)

pub Ascend-map : {X Y : Type 0} (h : X → Y) (es : List (Name × X)) → Ascend es → Ascend (map (on_value h) es)
Ascend-map h es s = subst (IsStrictlySortedBy order.ghosts.cmp) (sym (names-map h es)) s

Ascend-along : {X : Type 0} (v w : Entries X) (e : v ≡ w) (p : Ascend v.items) (q : Ascend w.items) → PathP (λ i. Ascend (e i).items) p q
Ascend-along v w e = is_prop→PathP (λ i. Ascend (e i).items) (λ i. IsStrictlySortedBy-prop order.ghosts.cmp (keys_of (e i).items))

-- the same names with other values
abbrev pub mapped : {X Y : Type 0} → (X → Y) → Named X → Named Y
mapped h d = record { entries = vec.mapped (on_value h) d.entries; ascend = Ascend-map h d.entries.items d.ascend }

module _ (g : Former {0}) where
  got_names : (X : Type 0) (a : Entries g.Shape) (n : Count) (v : Row X ((entries g).count a n)) → keys_of ((entries g).get X a n v).0.items ≡ keys_of a.items
  got_names X a n v = sym (names-map (g.shape X) ((entries g).get X a n v).0.items) ∙ (λ i. keys_of ((entries g).put-get X a n v i).0.items)

  pub Ascend-got : (X : Type 0) (a : Entries g.Shape) (n : Count) (v : Row X ((entries g).count a n)) → Ascend a.items → Ascend ((entries g).get X a n v).0.items
  Ascend-got X a n v s = subst (IsStrictlySortedBy order.ghosts.cmp) (sym (got_names X a n v)) s

  abbrev pub got : (X : Type 0) (a : Named g.Shape) (n : Count) → Row X ((entries g).count a.entries n) → Named (g.Of X) × Row X n
  got X a n v =
      let r : Entries (g.Of X) × Row X n = (entries g).get X a.entries n v in
      (record { entries = r.0; ascend = Ascend-got X a.entries n v a.ascend }, r.1)

  pub got-put : (X : Type 0) (d : Named (g.Of X)) (n : Count) (t : Row X n) → got X (mapped (g.shape X) d) n ((entries g).put X d.entries n t) ≡ (d, t)
  got-put X d n t =
      let e = (entries g).get-put X d.entries n t in
      let from = (got X (mapped (g.shape X) d) n ((entries g).put X d.entries n t)).0.ascend in
      λ i. (record { entries = (e i).0; ascend = Ascend-along _ _ (λ j. (e j).0) from d.ascend i }, (e i).1)

  pub put-got : (X : Type 0) (a : Named g.Shape) (n : Count) (v : Row X ((entries g).count a.entries n))
      → ◌≡◌ {A = (b : Named g.Shape) × Row X ((entries g).count b.entries n)}
      (mapped (g.shape X) (got X a n v).0, (entries g).put X (got X a n v).0.entries n (got X a n v).1) (a, v)
  put-got X a n v =
      let e = (entries g).put-get X a.entries n v in
      let from = (mapped (g.shape X) (got X a n v).0).ascend in
      λ i. (record { entries = (e i).0; ascend = Ascend-along _ _ (λ j. (e j).0) from a.ascend i }, (e i).1)

  pub got-map : (X Y : Type 0) (h : X → Y) (a : Named g.Shape) (n : Count) (v : Row X ((entries g).count a.entries n))
      → got Y a n (over h ((entries g).count a.entries n) v) ≡ (mapped (g.map X Y h) (got X a n v).0, over h n (got X a n v).1)
  got-map X Y h a n v =
      let e = (entries g).get-map X Y h a.entries n v in
      let from = (got Y a n (over h ((entries g).count a.entries n) v)).0.ascend in
      let to = (mapped (g.map X Y h) (got X a n v).0).ascend in
      λ i. (record { entries = (e i).0; ascend = Ascend-along _ _ (λ j. (e j).0) from to i }, (e i).1)

  abbrev pub the_former : Type 0 → Former {0}
  the_former K = record {
    Of = λ X. Named (g.Of X);
    Shape = Named g.Shape;
    count = λ a. (entries g).count a.entries;
    shape = λ X. mapped (g.shape X);
    put = λ X d. (entries g).put X d.entries;
    get = got;
    map = λ X Y h. mapped (g.map X Y h);
    get-put = got-put;
    put-get = put-got;
    get-map = got-map;
  }

abbrev pub the_weighed : {g : Former {0}} → Weighed g → (K : Type 0) → Weighed (the_former g K)
the_weighed w K =
    let v = w_pair (w_const Name) w in
    record { weight = λ X μ d. most (v.weight X μ) d.entries.items; puts = λ X μ d. List-puts v X μ d.entries.items }

abbrev pub the_items : (K X : Type 0) → Named X → List X
the_items K X d = values_of d.entries.items

values_listed : (X : Type 0) (es : List (Name × X)) → listed _ (children (list (entry this)) X es) ≡ values_of es
values_listed X [] = refl
values_listed X (e ∷ es) = ap (λ l. e.1 ∷ l) (values_listed X es)

pub the_items_listed : (K X : Type 0) (d : Named X) → listed _ (children (the_former this K) X d) ≡ the_items K X d
the_items_listed K X d = values_listed X d.entries.items

-- ---- it owns, lends and is encoded by what its values own, lend and are encoded by

abbrev name_row : NamedLft → RattleType
name_row κ = Str κ.mir κ.lft

abbrev parts : NamedLft → RattleType → List RattleType
parts κ R = name_row κ ∷ R ∷ []

module _ (κ : NamedLft) (R : RattleType) where
  abbrev row_of : RattleType
  row_of = C.the_row (name_row κ) R order.ghosts equality.ghosts partial_order.ghosts

  abbrev type_of : Declared
  type_of = C.the_type (name_row κ) R order.ghosts equality.ghosts partial_order.ghosts

module _ (K : RattleType) (o : ord.Ghosts K.Denot) (q : eq.Ghosts K.Denot) (p : partial.Ghosts K.Denot) (R S : RattleType) (h : R.Denot → S.Denot) where
  entry_places : (κ : NamedLft) → Alike R S h → Alike (Tuple (parts κ R)) (Tuple (parts κ S)) (on_value h)
  entry_places κ a = struct_places (tuple_type (parts κ R)) (tuple_type (parts κ S)) ((λ n. n), (h, tt)) (on_value h) (λ e. refl) refl (stays (name_row κ), (laid R S h a, tt))

  pub the_places : {κ : NamedLft} → Alike R S h → Alike (row_of κ R) (row_of κ S) ((the_former this K.Denot).map R.Denot S.Denot h)
  the_places {κ} a = struct_places (type_of κ R) (type_of κ S) (vec.mapped (on_value h), tt) (mapped h) (λ d. refl) refl
      (laid _ _ _ (vec.the_places heap.the_row ghosts (Tuple (parts κ R)) (Tuple (parts κ S)) (on_value h) (entry_places κ a)), tt)

  -- an encoding does not depend on a lifetime, so the one for `'static` serves all others
  entry_recodes : Recodes R S h → Recodes (Tuple (parts static_lft R)) (Tuple (parts static_lft S)) (on_value h)
  entry_recodes e = struct_Codes (tuple_type (parts static_lft R)) (tuple_type (parts static_lft S)) ((λ n. n), (h, tt)) (on_value h) (λ e. refl) ((λ n. refl), (e, tt))

  pub the_codes_placed : Recodes R S h → Recodes (row_of static_lft R) (row_of static_lft S) ((the_former this K.Denot).map R.Denot S.Denot h)
  the_codes_placed e = struct_Codes (type_of static_lft R) (type_of static_lft S) (vec.mapped (on_value h), tt) (mapped h) (λ d. refl)
      (vec.the_codes_placed heap.the_row ghosts (Tuple (parts static_lft R)) (Tuple (parts static_lft S)) (on_value h) (entry_recodes e), tt)
