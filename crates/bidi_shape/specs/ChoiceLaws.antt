-- Values that may be null, and values of one of two types: their trees, and their laws. After RFC 8610, 2.2.2.
use Rattle.std.proofs.Common.{◌≡◌, max, Option, Some, None, refl, zero-le, sym, subst, arith}
use Rattle.bidi_tree.specs.Node as tree
use Rattle.bidi_tree.specs.Node.{Node, IsWhole}
use Rattle.bidi_shape.specs.Term.{Term, null, either}
use Rattle.bidi_shape.specs.Fits.{Fits, fits_null, fits_first, fits_second}
use Rattle.bidi_shape.specs.Value.{ShapeOf}
use Rattle.bidi_shape.specs.ValueLaws.{SameOption}
use Rattle.bidi_shape.specs.WholeLaws.{whole_within}
use Rattle.bidi_shape.specs.declared.choice.Either.{Either}
use Rattle.bidi_shape.specs.declared.choice.Either.TheVariants.{First, Second}

-- ---- a value that may be null

-- the tree of a value that may be null
abbrev pub nullable_tree : {X : Type 0} → (X → Node) → Option X → Node
nullable_tree tree_of None = tree.null
nullable_tree tree_of (Some v) = tree_of v

-- the value is valid; None is valid only if null does not fit the value's own rule
abbrev pub NullableWell : {X : Type 0} → (X → Type 0) → Term → Option X → Type 0
NullableWell well τ None = Fits tree.null τ → ⊥
NullableWell well τ (Some v) = well v

pub nullable_fits : {X : Type 0} (tree_of : X → Node) (well : X → Type 0) (τ : Term) (fits : (v : X) → well v → Fits (tree_of v) τ) (o : Option X)
    → NullableWell well τ o → Fits (nullable_tree tree_of o) (either τ null)
nullable_fits tree_of well τ fits None w = fits_second tree.null τ null fits_null
nullable_fits tree_of well τ fits (Some v) w = fits_first (tree_of v) τ null (fits v w)

pub nullable_one : {X : Type 0} (tree_of : X → Node) (well : X → Type 0) (same : X → X → Type 0) (τ : Term) (fits : (v : X) → well v → Fits (tree_of v) τ)
    (one : (v w : X) → well v → well w → tree_of v ≡ tree_of w → same v w) (o p : Option X)
    → NullableWell well τ o → NullableWell well τ p → nullable_tree tree_of o ≡ nullable_tree tree_of p → SameOption same o p
nullable_one tree_of well same τ fits one None None v w e = tt
nullable_one tree_of well same τ fits one None (Some y) v w e = v (subst (λ t. Fits t τ) (sym e) (fits y w))
nullable_one tree_of well same τ fits one (Some x) None v w e = w (subst (λ t. Fits t τ) e (fits x v))
nullable_one tree_of well same τ fits one (Some x) (Some y) v w e = one x y v w e

pub nullable_whole : {X : Type 0} (s : ShapeOf X) (o : Option X) → NullableWell s.well s.rule o → IsWhole (nullable_tree s.tree_of o) s.deepest
nullable_whole s None w = (refl, zero-le)
nullable_whole s (Some v) w = s.whole v w

-- the shape of values that may be null
abbrev pub nullable_shape : {X : Type 0} → ShapeOf X → ShapeOf (Option X)
nullable_shape s = record {
  rule = either s.rule null;
  tree_of = nullable_tree s.tree_of;
  well = NullableWell s.well s.rule;
  same = SameOption s.same;
  fits = λ v w. nullable_fits s.tree_of s.well s.rule s.fits v w;
  one_value = λ v w a b e. nullable_one s.tree_of s.well s.same s.rule s.fits s.one_value v w a b e;
  deepest = s.deepest;
  whole = nullable_whole s;
}

-- ---- a value of the first type that fits

-- the tree of a value of either type
abbrev pub either_tree : {A B : Type 0} → (A → Node) → (B → Node) → Either A B → Node
either_tree f g (First a) = f a
either_tree f g (Second b) = g b

-- the value is valid; one of the second type is valid only if its tree does not fit the first rule
abbrev pub EitherWell : {A B : Type 0} → ShapeOf A → ShapeOf B → Either A B → Type 0
EitherWell s t (First a) = s.well a
EitherWell s t (Second b) = t.well b × (Fits (t.tree_of b) s.rule → ⊥)

-- both values are of the same type of the two, and are the same
abbrev pub EitherSame : {A B : Type 0} → ShapeOf A → ShapeOf B → Either A B → Either A B → Type 0
EitherSame s t (First a) (First b) = s.same a b
EitherSame s t (First a) (Second b) = ⊥
EitherSame s t (Second a) (First b) = ⊥
EitherSame s t (Second a) (Second b) = t.same a b

pub either_fits : {A B : Type 0} (s : ShapeOf A) (t : ShapeOf B) (v : Either A B)
    → EitherWell s t v → Fits (either_tree s.tree_of t.tree_of v) (either s.rule t.rule)
either_fits s t (First a) w = fits_first (s.tree_of a) s.rule t.rule (s.fits a w)
either_fits s t (Second b) w = fits_second (t.tree_of b) s.rule t.rule (t.fits b w.0)

pub either_one : {A B : Type 0} (s : ShapeOf A) (t : ShapeOf B) (v w : Either A B) → EitherWell s t v → EitherWell s t w
    → either_tree s.tree_of t.tree_of v ≡ either_tree s.tree_of t.tree_of w → EitherSame s t v w
either_one s t (First a) (First b) v w e = s.one_value a b v w e
either_one s t (First a) (Second b) v w e = w.1 (subst (λ x. Fits x s.rule) e (s.fits a v))
either_one s t (Second a) (First b) v w e = v.1 (subst (λ x. Fits x s.rule) (sym e) (s.fits b w))
either_one s t (Second a) (Second b) v w e = t.one_value a b v.0 w.0 e

pub either_whole : {A B : Type 0} (s : ShapeOf A) (t : ShapeOf B) (v : Either A B)
    → EitherWell s t v → IsWhole (either_tree s.tree_of t.tree_of v) (max s.deepest t.deepest)
either_whole s t (First a) w = whole_within (s.tree_of a) s.deepest (max s.deepest t.deepest) (omega arith) (s.whole a w)
either_whole s t (Second b) w = whole_within (t.tree_of b) t.deepest (max s.deepest t.deepest) (omega arith) (t.whole b w.0)

-- the shape of a choice between two types
abbrev pub either_shape : {A B : Type 0} → ShapeOf A → ShapeOf B → ShapeOf (Either A B)
either_shape s t = record {
  rule = either s.rule t.rule;
  tree_of = either_tree s.tree_of t.tree_of;
  well = EitherWell s t;
  same = EitherSame s t;
  fits = either_fits s t;
  one_value = either_one s t;
  deepest = max s.deepest t.deepest;
  whole = either_whole s t;
}

-- a tree that fits neither rule does not fit the choice of the two
pub fits_neither : {t : Node} {σ τ : Term} → (Fits t σ → ⊥) → (Fits t τ → ⊥) → Fits t (either σ τ) → ⊥
fits_neither f g (fits_first t σ τ h) = f h
fits_neither f g (fits_second t σ τ h) = g h
