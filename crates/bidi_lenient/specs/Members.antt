-- Members of objects that are changed or left out. Defined by this project.
use Rattle.std.specs.Prelude.{ℕ, Bool, if◌then◌else◌, List, ◌≡◌, Result, IfOk}
use Rattle.std.specs.Option.{option_map_or}
use Rattle.std.specs.declared.alloc.AllocError.{AllocError}
use Rattle.bidi_tree.specs.Node as tree
use Rattle.bidi_tree.specs.Node.{Node, null, boolean, whole, odd, text, list, Members, no_members, member, put, get_of}
use Rattle.bidi_tree.specs.View.{node}
use Rattle.bidi_tree.specs.declared.tree.Tree.{Tree}

-- the object with this tree at this name; any other tree is left as it is
abbrev pub put_in : List ℕ → Node → Node → Node
put_in k m null = null
put_in k m (boolean b) = boolean b
put_in k m (whole z) = whole z
put_in k m odd = odd
put_in k m (text s) = text s
put_in k m (list ts) = list ts
put_in k m (tree.map ms) = tree.map (put k m ms)

-- the tree with f applied to its member of this name, if it has one
abbrev pub within : List ℕ → (Node → Node) → Node → Node
within k f t = option_map_or (λ m. put_in k (f m) t) (get_of k t) t

-- a call with the relation R returns f of its tree, unless an allocation fails
abbrev pub Gives : (Tree → Result Tree AllocError → Type 0) → (Node → Node) → Type 0
Gives R f = (t : Tree) (r : Result Tree AllocError) → R t r → IfOk r (λ u. node u ≡ f (node t))

-- the members without those for which p is true
abbrev pub members_kept : (List ℕ → Node → Bool) → Members → Members
members_kept p no_members = no_members
members_kept p (member k t ms) = if p k t then members_kept p ms else member k t (members_kept p ms)

-- the object without the members for which p is true; any other tree is left as it is
abbrev pub without : (List ℕ → Node → Bool) → Node → Node
without p null = null
without p (boolean b) = boolean b
without p (whole z) = whole z
without p odd = odd
without p (text s) = text s
without p (list ts) = list ts
without p (tree.map ms) = tree.map (members_kept p ms)
