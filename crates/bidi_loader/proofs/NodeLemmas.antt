-- What each form of node means, by the meaning of its parts.
use Rattle.std.specs.Prelude.{IsTrue, ◌==◌, if◌then◌else◌}
use Rattle.std.proofs.Common.{◌≡◌, ◌<◌, ℕ, List, Bool, true, false, true≢false, refl, sym, ap, ◌∙◌, take}
use Rattle.bidi_grammar.specs.Source as source
use Rattle.bidi_grammar.specs.Source.{Written, Group}
use Rattle.bidi_cddl.specs.declared.written.Occurs.{Occurs}
use Rattle.bidi_cddl.specs.declared.written.Occurs.TheVariants.{AtLeast}
use Rattle.bidi_cddl.specs.declared.written.Node.{Node}
use Rattle.bidi_cddl.specs.declared.written.Node.TheVariants as node
use Rattle.bidi_cddl.specs.declared.written.Written as code
use Rattle.std.specs.Borrow.{Bor}
use Rattle.bidi_loader.specs.Plain.{unescaped, bounded}
use Rattle.bidi_loader.specs.Meaning.{as_type, as_group, as_items, Items, type_at, group_at, items_at, tree_of, is_rule, written_trees}
use Rattle.bidi_loader.specs.Meaning.{array_type, member_group, further_group, bare_group, some_of, item, items_again, items_then}
use Rattle.bidi_loader.specs.Readings.{IsNode}
use Rattle.bidi_loader.proofs.TreeLemmas.{tree-is, type-before, group-before, items-before}

-- the type of a node
pub type-is : (w : code.Written) (k : ℕ) (n : Node) → IsNode w k n
    → type_at (written_trees w) k ≡ as_type (tree_of (is_rule w.rules.items) (take k (written_trees w)) n)
type-is w k n h = ap as_type (tree-is w k n h.0 h.1)

-- the group of a node
pub group-is : (w : code.Written) (k : ℕ) (n : Node) → IsNode w k n
    → group_at (written_trees w) k ≡ as_group (tree_of (is_rule w.rules.items) (take k (written_trees w)) n)
group-is w k n h = ap as_group (tree-is w k n h.0 h.1)

-- the items of a node
pub items-is : (w : code.Written) (k : ℕ) (n : Node) → IsNode w k n
    → items_at (written_trees w) k ≡ as_items (tree_of (is_rule w.rules.items) (take k (written_trees w)) n)
items-is w k n h = ap as_items (tree-is w k n h.0 h.1)

pub map-is : (w : code.Written) (k i : ℕ) → IsNode w k (node.Map i) → i < k → type_at (written_trees w) k ≡ source.map_of (group_at (written_trees w) i)
map-is w k i h l = type-is w k (node.Map i) h ∙ ap source.map_of (group-before (written_trees w) k i l)

pub array-is : (w : code.Written) (k i : ℕ) → IsNode w k (node.Array i) → i < k → type_at (written_trees w) k ≡ array_type (items_at (written_trees w) i)
array-is w k i h l = type-is w k (node.Array i) h ∙ ap array_type (items-before (written_trees w) k i l)

pub either-is : (w : code.Written) (k i j : ℕ) → IsNode w k (node.Either i j) → i < k → j < k
    → type_at (written_trees w) k ≡ source.either (type_at (written_trees w) i) (type_at (written_trees w) j)
either-is w k i j h l m =
    type-is w k (node.Either i j) h
    ∙ ap (λ (σ : Written). source.either σ (type_at (take k (written_trees w)) j)) (type-before (written_trees w) k i l)
    ∙ ap (source.either (type_at (written_trees w) i)) (type-before (written_trees w) k j m)

pub bounded-is : (w : code.Written) (k i : ℕ) (control s : Bor (List ℕ)) → IsNode w k (node.Bounded i control s) → i < k
    → type_at (written_trees w) k ≡ bounded (type_at (written_trees w) i) control.now s.now
bounded-is w k i control s h l =
    type-is w k (node.Bounded i control s) h ∙ ap (λ (σ : Written). bounded σ control.now s.now) (type-before (written_trees w) k i l)

pub member-is : (w : code.Written) (k i : ℕ) (occurs : Occurs) (s : Bor (List ℕ)) → IsNode w k (node.Member occurs s i) → i < k
    → group_at (written_trees w) k ≡ member_group occurs (unescaped s.now) (type_at (written_trees w) i)
member-is w k i occurs s h l =
    group-is w k (node.Member occurs s i) h ∙ ap (member_group occurs (unescaped s.now)) (type-before (written_trees w) k i l)

pub further-is : (w : code.Written) (k i : ℕ) (occurs : Occurs) → IsNode w k (node.Further occurs i) → i < k
    → group_at (written_trees w) k ≡ further_group occurs (type_at (written_trees w) i)
further-is w k i occurs h l =
    group-is w k (node.Further occurs i) h ∙ ap (further_group occurs) (type-before (written_trees w) k i l)

pub bare-is : (w : code.Written) (k i : ℕ) (occurs : Occurs) → IsNode w k (node.Bare occurs i) → i < k
    → group_at (written_trees w) k ≡ some_of occurs (bare_group (type_at (written_trees w) i))
bare-is w k i occurs h l =
    group-is w k (node.Bare occurs i) h ∙ ap (λ (σ : Written). some_of occurs (bare_group σ)) (type-before (written_trees w) k i l)

pub inside-is : (w : code.Written) (k i : ℕ) (occurs : Occurs) → IsNode w k (node.Inside occurs i) → i < k
    → group_at (written_trees w) k ≡ some_of occurs (group_at (written_trees w) i)
inside-is w k i occurs h l =
    group-is w k (node.Inside occurs i) h ∙ ap (some_of occurs) (group-before (written_trees w) k i l)

pub both-is : (w : code.Written) (k i j : ℕ) → IsNode w k (node.Both i j) → i < k → j < k
    → group_at (written_trees w) k ≡ source.both (group_at (written_trees w) i) (group_at (written_trees w) j)
both-is w k i j h l m =
    group-is w k (node.Both i j) h
    ∙ ap (λ (A : Group). source.both A (group_at (take k (written_trees w)) j)) (group-before (written_trees w) k i l)
    ∙ ap (source.both (group_at (written_trees w) i)) (group-before (written_trees w) k j m)

pub choice-is : (w : code.Written) (k i j : ℕ) → IsNode w k (node.Choice i j) → i < k → j < k
    → group_at (written_trees w) k ≡ source.choice (group_at (written_trees w) i) (group_at (written_trees w) j)
choice-is w k i j h l m =
    group-is w k (node.Choice i j) h
    ∙ ap (λ (A : Group). source.choice A (group_at (take k (written_trees w)) j)) (group-before (written_trees w) k i l)
    ∙ ap (source.choice (group_at (written_trees w) i)) (group-before (written_trees w) k j m)

pub member_items-is : (w : code.Written) (k i : ℕ) (occurs : Occurs) (s : Bor (List ℕ)) → IsNode w k (node.Member occurs s i) → i < k
    → items_at (written_trees w) k ≡ item occurs (type_at (written_trees w) i)
member_items-is w k i occurs s h l =
    items-is w k (node.Member occurs s i) h ∙ ap (item occurs) (type-before (written_trees w) k i l)

pub bare_items-is : (w : code.Written) (k i : ℕ) (occurs : Occurs) → IsNode w k (node.Bare occurs i) → i < k
    → items_at (written_trees w) k ≡ item occurs (type_at (written_trees w) i)
bare_items-is w k i occurs h l =
    items-is w k (node.Bare occurs i) h ∙ ap (item occurs) (type-before (written_trees w) k i l)

pub inside_items-is : (w : code.Written) (k i : ℕ) (occurs : Occurs) → IsNode w k (node.Inside occurs i) → i < k
    → items_at (written_trees w) k ≡ items_again occurs (items_at (written_trees w) i)
inside_items-is w k i occurs h l =
    items-is w k (node.Inside occurs i) h ∙ ap (items_again occurs) (items-before (written_trees w) k i l)

pub both_items-is : (w : code.Written) (k i j : ℕ) → IsNode w k (node.Both i j) → i < k → j < k
    → items_at (written_trees w) k ≡ items_then (items_at (written_trees w) i) (items_at (written_trees w) j)
both_items-is w k i j h l m =
    items-is w k (node.Both i j) h
    ∙ ap (λ (x : Items). items_then x (items_at (take k (written_trees w)) j)) (items-before (written_trees w) k i l)
    ∙ ap (items_then (items_at (written_trees w) i)) (items-before (written_trees w) k j m)

-- any number of further members
further_by : (b : Bool) (σ : Written) → IsTrue b → (if b then source.further σ else source.empty) ≡ source.further σ
further_by true σ h = refl
further_by false σ h = absurd (true≢false (sym h))

pub further_any : (n : ℕ) (σ : Written) → IsTrue (n == 0) → further_group (AtLeast n) σ ≡ source.further σ
further_any n σ h = further_by (n == 0) σ h
