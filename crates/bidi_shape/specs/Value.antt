-- The specification of a type whose values are the trees that fit a rule. Defined by this project.
use Rattle.std.specs.Prelude.{◌≡◌, ℕ}
use Rattle.bidi_tree.specs.Node.{Node, IsWhole}
use Rattle.bidi_shape.specs.Term.{Term}
use Rattle.bidi_shape.specs.Fits.{Fits}

-- the specification of a type: its rule, the tree of each value, when a value is valid, and the laws of these
pub record ShapeOf (V : Type 0) : Type 1 where
  -- the rule
  pub rule : Term
  -- the tree of a value
  pub tree_of : V → Node
  -- the value is valid: it can be read, and written
  pub well : V → Type 0
  -- the two values are equal, apart from the memory that they reserve
  pub same : V → V → Type 0
  -- the tree of each valid value fits the rule
  pub fits : (v : V) → well v → Fits (tree_of v) rule
  -- valid values with the same tree are the same
  pub one_value : (v w : V) → well v → well w → tree_of v ≡ tree_of w → same v w
  -- the most levels of a valid value's tree, which has no Odd
  pub deepest : ℕ
  pub whole : (v : V) → well v → IsWhole (tree_of v) deepest
