-- Laws of values that all types share. Defined by this project.
use Rattle.std.specs.Prelude.{◌≡◌, Option, Some, None, IfSome, option_map}
use Rattle.bidi_tree.specs.Node.{Node, Members}
use Rattle.bidi_tree.specs.View.{members_node}
use Rattle.bidi_shape.specs.declared.ext.Ext.{Ext}
use Rattle.bidi_shape.specs.Term.{optional, Term}
use Rattle.bidi_shape.specs.Fits.{Fits}
use Rattle.bidi_shape.specs.Parts.{PartFits}

-- the further members of an object, which are an `Ext` of the code
abbrev pub others_of : Ext → Members
others_of e = members_node e.members.entries

-- ---- an optional value

-- both values are missing, or both are there and are the same
abbrev pub SameOption : {X : Type 0} → (X → X → Type 0) → Option X → Option X → Type 0
SameOption same None None = Unit {0}
SameOption same None (Some y) = ⊥
SameOption same (Some x) None = ⊥
SameOption same (Some x) (Some y) = same x y

pub optional_fits : {X : Type 0} (tree_of : X → Node) (well : X → Type 0) (τ : Term)
    → ((v : X) → well v → Fits (tree_of v) τ) → (o : Option X) → IfSome o well → PartFits optional τ (option_map tree_of o)
optional_fits tree_of well τ fits None w = tt
optional_fits tree_of well τ fits (Some v) w = fits v w

pub optional_one : {X : Type 0} (tree_of : X → Node) (well : X → Type 0) (same : X → X → Type 0)
    → ((v w : X) → well v → well w → tree_of v ≡ tree_of w → same v w)
    → (o p : Option X) → IfSome o well → IfSome p well → option_map tree_of o ≡ option_map tree_of p → SameOption same o p
optional_one tree_of well same one None None v w e = tt
optional_one tree_of well same one None (Some y) v w e = cc
optional_one tree_of well same one (Some x) None v w e = cc
optional_one tree_of well same one (Some x) (Some y) v w e = let inside : tree_of x ≡ tree_of y = cc in one x y v w inside
