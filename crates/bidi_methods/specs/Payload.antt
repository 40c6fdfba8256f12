-- Payloads: values of one of several kinds, each with a rule of its own, as a message of that kind carries. After WebDriver BiDi, "Protocol".
use Rattle.std.proofs.Common.{◌≡◌, ℕ, nat_le, true, subst}
use Rattle.std.proofs.lemmas.Bool.{leb-true}
use Rattle.bidi_tree.specs.Node.{Node, IsWhole}
use Rattle.bidi_shape.specs.Name.{Name}
use Rattle.bidi_shape.specs.Term.{Term, rule}
use Rattle.bidi_shape.specs.Fits.{Fits}
use Rattle.bidi_shape.specs.Value.{ShapeOf}
use Rattle.bidi_shape.specs.WholeLaws.{whole_within}

-- the specification of a payload type: the kind of each value, the rule of each kind, the tree of each value, and the laws of these
pub record PayloadOf (D K : Type 0) : Type 1 where
  pub kind : D → K
  pub rule : K → Term
  pub tree_of : D → Node
  pub well : D → Type 0
  pub same : D → D → Type 0
  -- the tree of a valid value fits the rule of its kind
  pub fits : (d : D) → well d → Fits (tree_of d) (rule (kind d))
  -- valid values of the same kind with the same tree are the same
  pub one_value : (d e : D) → well d → well e → kind d ≡ kind e → tree_of d ≡ tree_of e → same d e
  -- the most levels of a valid value's tree, which has no Odd
  pub deepest : ℕ
  pub whole : (d : D) → well d → IsWhole (tree_of d) deepest

-- ---- a type with one variant for each kind

-- the two values are of one kind, and are the same
pub data SameKind {K : Type 0} (P : K → Type 0) (s : (k : K) → ShapeOf (P k)) : (j : K) → P j → (k : K) → P k → Type 0 where
  same_kind : (k : K) (x y : P k) → (s k).same x y → SameKind P s k x k y

pub one_kind : {K : Type 0} (P : K → Type 0) (s : (k : K) → ShapeOf (P k)) (j k : K) (x : P j) (y : P k) → (s j).well x → (s k).well y → j ≡ k
    → (s j).tree_of x ≡ (s k).tree_of y → SameKind P s j x k y
one_kind P s j k x y a b e t =
    subst (λ i. (z : P i) → (s i).well z → (s j).tree_of x ≡ (s i).tree_of z → SameKind P s j x i z) e
    (λ z c u. same_kind j x z ((s j).one_value x z a c u)) y b t

-- the most levels of a payload's tree
abbrev pub most_payload_levels : ℕ
most_payload_levels = 70

-- the payload of one kind: the type of its values, the rule that their trees fit, and their shape, whose trees have at most 70 levels
pub record Part : Type 1 where
  pub Value : Type 0
  pub name : Name
  pub shape : ShapeOf Value
  pub is_rule : shape.rule ≡ rule name
  pub within : nat_le shape.deepest most_payload_levels ≡ true

-- the payload with this rule and this shape
abbrev pub part : {V : Type 0} (r : Name) (s : ShapeOf V) → s.rule ≡ rule r → nat_le s.deepest most_payload_levels ≡ true → Part
part {V = V} r s is_rule within = record { Value = V; name = r; shape = s; is_rule = is_rule; within = within }

-- a value of one of several kinds, together with its kind
abbrev pub OfKind : {K : Type 0} → (K → Part) → Type 0
OfKind {K = K} bears = (k : K) × (bears k).Value

-- the payload type whose values correspond to a kind and a value of that kind
abbrev pub one_by_kind : {D K : Type 0} (bears : K → Part) → (D → OfKind bears) → PayloadOf D K
one_by_kind bears seen = record {
  kind = λ d. (seen d).0;
  rule = λ k. rule (bears k).name;
  tree_of = λ d. (bears (seen d).0).shape.tree_of (seen d).1;
  well = λ d. (bears (seen d).0).shape.well (seen d).1;
  same = λ d e. SameKind (λ k. (bears k).Value) (λ k. (bears k).shape) (seen d).0 (seen d).1 (seen e).0 (seen e).1;
  fits =
      λ d w. subst (λ σ. Fits ((bears (seen d).0).shape.tree_of (seen d).1) σ) (bears (seen d).0).is_rule
      ((bears (seen d).0).shape.fits (seen d).1 w);
  one_value = λ d e a b k t. one_kind (λ k. (bears k).Value) (λ k. (bears k).shape) (seen d).0 (seen e).0 (seen d).1 (seen e).1 a b k t;
  deepest = most_payload_levels;
  whole =
      λ d w. whole_within ((bears (seen d).0).shape.tree_of (seen d).1) (bears (seen d).0).shape.deepest most_payload_levels
      (leb-true (bears (seen d).0).shape.deepest most_payload_levels (bears (seen d).0).within) ((bears (seen d).0).shape.whole (seen d).1 w);
}
