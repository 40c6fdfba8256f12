-- Types and groups as nodes of a list, which name one another by their places.
use Rattle.std.specs.Prelude.{◌≡◌, ℕ, List, Bool, Some, slice_get}
use Rattle.bidi_cddl.specs.declared.written.Occurs.{Occurs}
use Rattle.bidi_cddl.specs.declared.written.Node as code
use Rattle.bidi_cddl.specs.declared.written.Node.TheVariants as variant

-- a type or a group: a number is the place of a node
pub data Node : Type 0 where
  -- a string, with its escapes
  a_text : List ℕ → Node
  a_number : List ℕ → Node
  -- `a..b`; true for `a...b`
  range : List ℕ → List ℕ → Bool → Node
  -- a type, a control operator and a number
  bounded : ℕ → List ℕ → List ℕ → Node
  a_name : List ℕ → Node
  a_map : ℕ → Node
  an_array : ℕ → Node
  either : ℕ → ℕ → Node
  empty : Node
  member : Occurs → List ℕ → ℕ → Node
  further : Occurs → ℕ → Node
  bare : Occurs → ℕ → Node
  inside : Occurs → ℕ → Node
  both : ℕ → ℕ → Node
  choice : ℕ → ℕ → Node

-- a node of the code
abbrev pub node_of : code.Node → Node
node_of (variant.Text s) = a_text s.now
node_of (variant.Number s) = a_number s.now
node_of (variant.Range s t b) = range s.now t.now b
node_of (variant.Bounded n s t) = bounded n s.now t.now
node_of (variant.Name s) = a_name s.now
node_of (variant.Map n) = a_map n
node_of (variant.Array n) = an_array n
node_of (variant.Either m n) = either m n
node_of variant.Empty = empty
node_of (variant.Member o s n) = member o s.now n
node_of (variant.Further o n) = further o n
node_of (variant.Bare o n) = bare o n
node_of (variant.Inside o n) = inside o n
node_of (variant.Both m n) = both m n
node_of (variant.Choice m n) = choice m n

-- the node at a place of a list
abbrev pub IsNode : List Node → ℕ → Node → Type 0
IsNode nodes n node = slice_get nodes n ≡ Some node
