-- Object types: the rows of their members, the trees of their values, and the laws of both. After RFC 8610, 3.5.
use Rattle.std.specs.Prelude.{◌≡◌, ℕ, suc, max, List, [], ◌∷◌, true, Option, Some, Result}
use Rattle.std.proofs.Common.{sym, ap, ◌∙◌, subst}
use Rattle.std.specs.Result.{IsErrAnd}
use Rattle.bidi_tree.specs.Node as tree
use Rattle.bidi_tree.specs.Node.{Node, Members, get_member, AreAscending}
use Rattle.bidi_shape.specs.Name.{Name}
use Rattle.bidi_shape.specs.Term.{Term, Openness, Rows, no_more, names_of, map_of, rule, exactly, text, bool}
use Rattle.bidi_shape.specs.Term.{null, js_uint, js_int, any, list_of, pair_of, either, capped}
use Rattle.bidi_shape.specs.Value.{ShapeOf}
use Rattle.bidi_shape.specs.Profile.{term_of}
use Rattle.bidi_shape.specs.Fits.{Fits, fits_rule, RowsFit, OthersFit, without}
use Rattle.bidi_shape.specs.Parts.{joined, distinct, PartsAt, PartsFit}
use Rattle.bidi_shape.specs.MapLaws.{map_fits, map_one, map_again, map_inside, without-without, Aligned-PartsFit}
use Rattle.bidi_shape.specs.WholeLaws.{PartsAreWhole, deepest_other, map_whole}
use Rattle.bidi_shape.specs.Outcome.{WhenNoFit, IfNoFit, handed_on}
use Rattle.bidi_shape.specs.declared.fault.ShapeFault.{ShapeFault}

-- the first of some names, or the empty name if there is none
abbrev pub head : List (List ℕ) → List ℕ
head [] = []
head (k ∷ ks) = k

-- the names after the first
abbrev pub tail : List (List ℕ) → List (List ℕ)
tail [] = []
tail (k ∷ ks) = ks

pub same_head : {X : Type 0} {p q : X} {ps qs : List X} → p ∷ ps ≡ q ∷ qs → p ≡ q
same_head e = cc

pub same_tail : {X : Type 0} {p q : X} {ps qs : List X} → p ∷ ps ≡ q ∷ qs → ps ≡ qs
same_tail e = cc

pub same_some : {X : Type 0} {x y : X} → Some x ≡ Some y → x ≡ y
same_some e = cc

-- the rows have these names in this order, and no name occurs twice
pub record IsTable (ks : List (List ℕ)) (rs : Rows) : Type 0 where
  pub names : names_of rs ≡ ks
  pub once : distinct (names_of rs) ≡ true

-- ---- terms that are those of an object

-- the term of a rule if the term is a rule's name, and otherwise the term itself
-- example: `wait` unfolds to the choice of its three texts
abbrev pub unfolded : Term → Term
unfolded (rule n) = term_of n
unfolded (exactly s) = exactly s
unfolded text = text
unfolded bool = bool
unfolded null = null
unfolded js_uint = js_uint
unfolded js_int = js_int
unfolded any = any
unfolded (list_of n τ) = list_of n τ
unfolded (pair_of σ τ) = pair_of σ τ
unfolded (map_of rs o) = map_of rs o
unfolded (either σ τ) = either σ τ
unfolded (capped τ) = capped τ

pub fits_unfolded : (t : Node) (τ : Term) → Fits t (unfolded τ) → Fits t τ
fits_unfolded t (rule n) f = fits_rule t n f
fits_unfolded t (exactly s) f = f
fits_unfolded t text f = f
fits_unfolded t bool f = f
fits_unfolded t null f = f
fits_unfolded t js_uint f = f
fits_unfolded t js_int f = f
fits_unfolded t any f = f
fits_unfolded t (list_of n τ) f = f
fits_unfolded t (pair_of σ τ) f = f
fits_unfolded t (map_of rs o) f = f
fits_unfolded t (either σ τ) f = f
fits_unfolded t (capped τ) f = f

rule_inside : {t : Node} {n : Name} → Fits t (rule n) → Fits t (term_of n)
rule_inside (fits_rule t n f) = f

pub unfolded_fits : (t : Node) (τ : Term) → Fits t τ → Fits t (unfolded τ)
unfolded_fits t (rule n) f = rule_inside f
unfolded_fits t (exactly s) f = f
unfolded_fits t text f = f
unfolded_fits t bool f = f
unfolded_fits t null f = f
unfolded_fits t js_uint f = f
unfolded_fits t js_int f = f
unfolded_fits t any f = f
unfolded_fits t (list_of n τ) f = f
unfolded_fits t (pair_of σ τ) f = f
unfolded_fits t (map_of rs o) f = f
unfolded_fits t (either σ τ) f = f
unfolded_fits t (capped τ) f = f

-- ---- values of an object type

-- the object of these parts and others
abbrev pub table_tree : Rows → List (Option Node) → Members → Node
table_tree rs ps others = tree.map (joined rs ps others)

-- no other member has the name of a row, and each may be there
pub record TableWell (rs : Rows) (o : Openness) (others : Members) : Type 0 where
  pub no_known : without (names_of rs) others ≡ others
  pub may : OthersFit o others

-- the specification of an object type: the rows of its members, the parts and other members of each value, and the laws of both
pub record Table (F : Type 0) : Type 1 where
  -- the rows, from the names of the members and the texts of the literal members
  pub rows : List (List ℕ) → List (List ℕ) → Rows
  pub openness : Openness
  pub parts : List (List ℕ) → F → List (Option Node)
  pub others : F → Members
  pub well : F → Type 0
  pub same : F → F → Type 0
  pub parts_fit : (ks ws : List (List ℕ)) (f : F) → well f → PartsFit (rows ks ws) (parts ws f)
  pub one : (ws : List (List ℕ)) (f g : F) → well f → well g → parts ws f ≡ parts ws g → others f ≡ others g → same f g
  -- the most levels of a part; no part has an Odd
  pub deepest : ℕ
  pub whole : (ws : List (List ℕ)) (f : F) → well f → PartsAreWhole (parts ws f) deepest

-- the tree of a value, given the names of its members and the texts of the literal ones
abbrev pub tree_by : {F : Type 0} → Table F → List (List ℕ) → List (List ℕ) → F → Node
tree_by t ks ws f = table_tree (t.rows ks ws) (t.parts ws f) (t.others f)

-- the value is valid: each part is valid, no further member has the name of a row, and each further member may be there
abbrev pub good_by : {F : Type 0} → Table F → List (List ℕ) → List (List ℕ) → F → Type 0
good_by t ks ws f = t.well f × TableWell (t.rows ks ws) t.openness (t.others f)

pub fits_by : {F : Type 0} (t : Table F) (τ : Term) (ks ws : List (List ℕ))
    → unfolded τ ≡ map_of (t.rows ks ws) t.openness → distinct (names_of (t.rows ks ws)) ≡ true
    → (f : F) → good_by t ks ws f → Fits (tree_by t ks ws f) τ
fits_by t τ ks ws is d f w =
    fits_unfolded (tree_by t ks ws f) τ (subst (λ σ. Fits (tree_by t ks ws f) σ) (sym is)
    (map_fits (t.rows ks ws) t.openness (t.parts ws f) (t.others f) d (t.parts_fit ks ws f w.0) w.1.no_known w.1.may))

pub one_by : {F : Type 0} (t : Table F) (ks ws : List (List ℕ)) → distinct (names_of (t.rows ks ws)) ≡ true
    → (f g : F) → good_by t ks ws f → good_by t ks ws g → tree_by t ks ws f ≡ tree_by t ks ws g → t.same f g
one_by t ks ws d f g a b e =
    let rs = t.rows ks ws in
    let p = map_one rs (t.parts ws f) (t.parts ws g) (t.others f) (t.others g) d
    (Aligned-PartsFit rs (t.parts ws f) (t.parts_fit ks ws f a.0)) (Aligned-PartsFit rs (t.parts ws g) (t.parts_fit ks ws g b.0)) a.1.no_known b.1.no_known e in
    t.one ws f g a.0 b.0 p.0 p.1

-- ---- laws for reading

-- a value that was read has the tree that it was read from
pub table_read : (ks : List (List ℕ)) (rs : Rows) (o : Openness) (ps : List (Option Node)) (ms others : Members) (t : Node)
    → IsTable ks rs → tree.map ms ≡ t → PartsAt rs ps ms → AreAscending ms
    → others ≡ without ks ms → OthersFit o others → (table_tree rs ps others ≡ t) × TableWell rs o others
table_read ks rs o ps ms others t h is parts sorted rest may =
    let left : others ≡ without (names_of rs) ms = rest ∙ ap (λ x. without x ms) (sym h.names) in (
      ap tree.map (map_again rs ps ms others h.once parts sorted left) ∙ is,
      record { no_known = ap (without (names_of rs)) left ∙ without-without (names_of rs) ms ∙ sym left; may = may },
    )

-- an object that was not read does not fit
pub table_misfit : (ks : List (List ℕ)) (rs : Rows) (o : Openness) (ms : Members) (t : Node) → IsTable ks rs → tree.map ms ≡ t
    → (RowsFit ms rs → OthersFit o (without ks ms) → ⊥) → Fits t (map_of rs o) → ⊥
table_misfit ks rs o ms t h is bad f =
    let p = map_inside (subst (λ x. Fits x (map_of rs o)) (sym is) f) in
    bad p.0 (subst (λ x. OthersFit o (without x ms)) h.names p.1)

-- a fault inside an object's reader is a fault of the whole object
pub members_exit : {Y : Type 0} (t : Node) (τ : Term) (rs : Rows) (o : Openness)
    → unfolded τ ≡ map_of rs o → (e : ShapeFault) (r : Result Y ShapeFault) → IsErrAnd r (λ y. y ≡ e)
    → WhenNoFit e ((ss : Rows) (p : Openness) → Fits t (map_of ss p) → ⊥) → IfNoFit r (Fits t τ → ⊥)
members_exit t τ rs o says e r was bad = handed_on e r was bad (λ f fit. f rs o (subst (λ σ. Fits t σ) says (unfolded_fits t τ fit)))

pub fields_exit : {Y : Type 0} (ks : List (List ℕ)) (t : Node) (τ : Term) (rs : Rows) (o : Openness) (ms : Members)
    → IsTable ks rs → tree.map ms ≡ t → unfolded τ ≡ map_of rs o → (e : ShapeFault) (r : Result Y ShapeFault)
    → IsErrAnd r (λ y. y ≡ e) → WhenNoFit e (RowsFit ms rs → OthersFit o (without ks ms) → ⊥) → IfNoFit r (Fits t τ → ⊥)
fields_exit ks t τ rs o ms h is says e r was bad =
    handed_on e r was bad (λ f fit. table_misfit ks rs o ms t h is f (subst (λ σ. Fits t σ) says (unfolded_fits t τ fit)))

-- the rows of a term that is a map; any other term has none
abbrev pub rows_in : Term → Rows
rows_in (map_of rs o) = rs
rows_in (exactly s) = no_more
rows_in text = no_more
rows_in bool = no_more
rows_in null = no_more
rows_in js_uint = no_more
rows_in js_int = no_more
rows_in any = no_more
rows_in (list_of n τ) = no_more
rows_in (pair_of σ τ) = no_more
rows_in (either σ τ) = no_more
rows_in (rule n) = no_more
rows_in (capped τ) = no_more

-- the names of the rows of a term, or of the rule that it names
-- example: the names in the rule of NavigateParameters are context, url and wait
abbrev pub names_in : Term → List (List ℕ)
names_in τ = names_of (rows_in (unfolded τ))

-- the shape of an object type, from its table and the members of each value
abbrev pub map_shape : {V F : Type 0} (τ : Term) (t : Table F) (ws : List (List ℕ)) (m : V → F)
    → unfolded τ ≡ map_of (t.rows (names_in τ) ws) t.openness → distinct (names_of (t.rows (names_in τ) ws)) ≡ true → ShapeOf V
map_shape τ t ws m is d = record {
  rule = τ;
  tree_of = λ v. tree_by t (names_in τ) ws (m v);
  well = λ v. good_by t (names_in τ) ws (m v);
  same = λ v w. t.same (m v) (m w);
  fits = λ v w. fits_by t τ (names_in τ) ws is d (m v) w;
  one_value = λ v w a b e. one_by t (names_in τ) ws d (m v) (m w) a b e;
  deepest = suc (max t.deepest (deepest_other t.openness));
  whole = λ v w. map_whole (t.rows (names_in τ) ws) t.openness (t.parts ws (m v)) (t.others (m v)) t.deepest (t.whole ws (m v) w.0) w.1.may;
}
