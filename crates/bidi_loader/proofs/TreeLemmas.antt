-- The tree of each node is made of the trees of the nodes before it.
use Rattle.std.proofs.Common.{◌≡◌, ◌<◌, ◌≤◌, ◌+◌, ℕ, zero, suc, List, [], ◌∷◌, ◌++◌, length, get_or, take, Bool, refl, sym, ap, ◌∙◌, arith}
use Rattle.std.proofs.lemmas.List.{get_or-take, get_or_at, take-take, take_at, take_all, length_push}
use Rattle.bidi_grammar.specs.Source as source
use Rattle.bidi_grammar.specs.Source.{Written, Group}
use Rattle.bidi_cddl.specs.declared.written.Node.{Node}
use Rattle.bidi_cddl.specs.declared.written.Written as code
use Rattle.bidi_loader.specs.Meaning.{Tree, a_type, as_type, as_group, as_items, tree_at, type_at, group_at, items_at, tree_of, trees_from, is_rule, written_trees}

-- the trees that are there stay
front_stays : (is : List ℕ → Bool) (done : List Tree) (nodes : List Node) → take (length done) (trees_from is done nodes) ≡ done
front_stays is done [] = take_all (length done) done (omega arith)
front_stays is done (n ∷ nodes) =
    let more = done ++ tree_of is done n ∷ [] in
    let whole = trees_from is more nodes in
    let long : length more ≡ length done + 1 = length_push done (tree_of is done n) in
    sym (take-take (length done) (length more) whole (omega (arith, long)))
    ∙ ap (take (length done)) (front_stays is more nodes)
    ∙ take_at done (tree_of is done n ∷ []) (length done) refl

-- the tree of a node behind some trees
tree-from : (is : List ℕ → Bool) (done : List Tree) (nodes : List Node) (k : ℕ) (d : Node) (m : ℕ) → k < length nodes → m ≡ length done + k
    → tree_at (trees_from is done nodes) m ≡ tree_of is (take m (trees_from is done nodes)) (get_or nodes k d)
tree-from is done [] k d m l e = absurd (omega (arith, l))
tree-from is done (n ∷ nodes) zero d m l e =
    let t = tree_of is done n in
    let more = done ++ t ∷ [] in
    let whole = trees_from is more nodes in
    let long : length more ≡ length done + 1 = length_push done t in
    let here : length done ≡ m = omega (arith, e) in
    let least : m < length more = omega (arith, long, e) in
    let few : m ≤ length more = omega (arith, least) in
    let front : take (length more) whole ≡ more = front_stays is more nodes in
    let before : take m whole ≡ done =
    sym (take-take m (length more) whole few) ∙ ap (take m) front ∙ take_at done (t ∷ []) m here in
    let at : tree_at whole m ≡ t =
    sym (get_or-take (length more) whole m (a_type source.null) least) ∙ ap (λ (ts : List Tree). tree_at ts m) front ∙ get_or_at done t [] (a_type source.null) m here in
    at ∙ ap (λ (ts : List Tree). tree_of is ts n) (sym before)
tree-from is done (n ∷ nodes) (suc k) d m l e =
    let more = done ++ tree_of is done n ∷ [] in
    let long : length more ≡ length done + 1 = length_push done (tree_of is done n) in
    tree-from is more nodes k d m (omega (arith, l)) (omega (arith, long, e))

-- the tree of a node
pub tree-is : (w : code.Written) (k : ℕ) (n : Node) → k < length w.nodes.items → n ≡ get_or w.nodes.items k n
    → tree_at (written_trees w) k ≡ tree_of (is_rule w.rules.items) (take k (written_trees w)) n
unfolding written_trees
tree-is w k n l e =
    let whole = trees_from (is_rule w.rules.items) [] w.nodes.items in
    tree-from (is_rule w.rules.items) [] w.nodes.items k n k l (omega arith)
    ∙ ap (λ (x : Node). tree_of (is_rule w.rules.items) (take k whole) x) (sym e)

-- a part that comes before
pub tree-before : (trees : List Tree) (k i : ℕ) → i < k → tree_at (take k trees) i ≡ tree_at trees i
tree-before trees k i l = get_or-take k trees i (a_type source.null) l

pub type-before : (trees : List Tree) (k i : ℕ) → i < k → type_at (take k trees) i ≡ type_at trees i
type-before trees k i l = ap as_type (tree-before trees k i l)

pub group-before : (trees : List Tree) (k i : ℕ) → i < k → group_at (take k trees) i ≡ group_at trees i
group-before trees k i l = ap as_group (tree-before trees k i l)

pub items-before : (trees : List Tree) (k i : ℕ) → i < k → items_at (take k trees) i ≡ items_at trees i
items-before trees k i l = ap as_items (tree-before trees k i l)
