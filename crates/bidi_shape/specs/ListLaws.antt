-- Lists and pairs of values: their trees, when they are the same, and their laws. After RFC 8610, 3.4.
use Rattle.std.specs.Prelude.{◌≡◌, ℕ, suc, ◌≤◌, ◌<◌, List, [], ◌∷◌, length, map, Some, refl}
use Rattle.std.proofs.Common.{sym, ap, arith, subst, get_or, zero}
use Rattle.std.specs.List.{AllByRecursion}
use Rattle.bidi_tree.specs.Node as tree
use Rattle.bidi_tree.specs.Node.{Node, Items, no_items, item}
use Rattle.bidi_tree.specs.Kind.{list_in}
use Rattle.bidi_tree.specs.View.{items_of}
use Rattle.bidi_shape.specs.Term.{Term, list_of, pair_of}
use Rattle.bidi_shape.specs.Fits.{Fits, AllFit, no_item, an_item, fits_list, fits_pair, count}

-- the array of the trees of these values
abbrev pub list_tree : {X : Type 0} → (X → Node) → List X → Node
list_tree tree_of xs = tree.list (items_of (map tree_of xs))

-- the lists are of equal length, and values at the same place are the same
abbrev pub SameEach : {X : Type 0} → (X → X → Type 0) → List X → List X → Type 0
SameEach same [] [] = Unit {0}
SameEach same [] (y ∷ ys) = ⊥
SameEach same (x ∷ xs) [] = ⊥
SameEach same (x ∷ xs) (y ∷ ys) = same x y × SameEach same xs ys

all_fit : {X : Type 0} (tree_of : X → Node) (well : X → Type 0) (τ : Term)
    → ((v : X) → well v → Fits (tree_of v) τ) → (xs : List X) → AllByRecursion well xs → AllFit (items_of (map tree_of xs)) τ
all_fit tree_of well τ fits [] w = no_item τ
all_fit tree_of well τ fits (x ∷ xs) w = an_item (tree_of x) (items_of (map tree_of xs)) τ (fits x w.0) (all_fit tree_of well τ fits xs w.1)

count-items_of : {X : Type 0} (tree_of : X → Node) (xs : List X) → count (items_of (map tree_of xs)) ≡ length xs
count-items_of tree_of [] = refl
count-items_of tree_of (x ∷ xs) = ap suc (count-items_of tree_of xs)

pub list_fits : {X : Type 0} (tree_of : X → Node) (well : X → Type 0) (τ : Term) (fits : (v : X) → well v → Fits (tree_of v) τ) (least : ℕ) (xs : List X)
    → least ≤ length xs → AllByRecursion well xs → Fits (list_tree tree_of xs) (list_of least τ)
list_fits tree_of well τ fits least xs h w =
    fits_list (items_of (map tree_of xs)) least τ (subst (λ n. least ≤ n) (sym (count-items_of tree_of xs)) h) (all_fit tree_of well τ fits xs w)

same_each : {X : Type 0} (tree_of : X → Node) (well : X → Type 0) (same : X → X → Type 0)
    (one : (v w : X) → well v → well w → tree_of v ≡ tree_of w → same v w) (xs ys : List X)
    → AllByRecursion well xs → AllByRecursion well ys → items_of (map tree_of xs) ≡ items_of (map tree_of ys) → SameEach same xs ys
same_each tree_of well same one [] [] v w e = tt
same_each tree_of well same one [] (y ∷ ys) v w e = cc
same_each tree_of well same one (x ∷ xs) [] v w e = cc
same_each tree_of well same one (x ∷ xs) (y ∷ ys) v w e =
    let first : tree_of x ≡ tree_of y = cc in
    let rest : items_of (map tree_of xs) ≡ items_of (map tree_of ys) = cc in
    (one x y v.0 w.0 first, same_each tree_of well same one xs ys v.1 w.1 rest)

pub list_one : {X : Type 0} (tree_of : X → Node) (well : X → Type 0) (same : X → X → Type 0)
    (one : (v w : X) → well v → well w → tree_of v ≡ tree_of w → same v w) (xs ys : List X)
    → AllByRecursion well xs → AllByRecursion well ys → list_tree tree_of xs ≡ list_tree tree_of ys → SameEach same xs ys
list_one tree_of well same one xs ys v w e =
    let inside : items_of (map tree_of xs) ≡ items_of (map tree_of ys) = cc in
    same_each tree_of well same one xs ys v w inside

-- ---- pairs

-- the array of two trees
abbrev pub pair_tree : Node → Node → Node
pair_tree t u = tree.list (item t (item u no_items))

pub pair_fits : (t u : Node) (σ τ : Term) → Fits t σ → Fits u τ → Fits (pair_tree t u) (pair_of σ τ)
pair_fits t u σ τ f g = fits_pair t u σ τ f g

pub first_same : (t u x y : Node) → pair_tree t u ≡ pair_tree x y → t ≡ x
first_same t u x y e = cc

pub second_same : (t u x y : Node) → pair_tree t u ≡ pair_tree x y → u ≡ y
second_same t u x y e = cc

-- ---- laws for reading

-- a tree that fits a pair is an array of two items
pub pair_fitting : {t : Node} {σ τ : Term}
    → Fits t (pair_of σ τ) → (u : Node) × (v : Node) × (list_in t ≡ Some (item u (item v no_items))) × Fits u σ × Fits v τ
pair_fitting (fits_pair t u σ τ f g) = (t, u, refl, f, g)

pub two_items : {X : Type 0} (tree_of : X → Node) (xs : List X) (u v : Node) → items_of (map tree_of xs) ≡ item u (item v no_items) → length xs ≡ 2
two_items tree_of [] u v e = cc
two_items tree_of (a ∷ []) u v e = cc
two_items tree_of (a ∷ b ∷ []) u v e = refl
two_items tree_of (a ∷ b ∷ c ∷ xs) u v e = cc

-- the items of a pair are its first and its second tree
pub pair_at : {X : Type 0} (tree_of : X → Node) (xs : List X) (u v : Node) (d : X)
    → items_of (map tree_of xs) ≡ item u (item v no_items) → (tree_of (get_or xs 0 d) ≡ u) × (tree_of (get_or xs 1 d) ≡ v)
pair_at tree_of [] u v d e = cc
pair_at tree_of (a ∷ []) u v d e = cc
pair_at tree_of (a ∷ b ∷ []) u v d e =
    let first : tree_of a ≡ u = cc in
    let second : tree_of b ≡ v = cc in
    (first, second)
pair_at tree_of (a ∷ b ∷ c ∷ xs) u v d e = cc

pub AllFit-at : {X : Type 0} (tree_of : X → Node) (τ : Term) (xs : List X) (i : ℕ) (d : X)
    → i < length xs → AllFit (items_of (map tree_of xs)) τ → Fits (tree_of (get_or xs i d)) τ
AllFit-at tree_of τ [] i d h a = absurd (omega arith)
AllFit-at tree_of τ (x ∷ xs) zero d h (an_item n m σ f a) = f
AllFit-at tree_of τ (x ∷ xs) (suc i) d h (an_item n m σ f a) = AllFit-at tree_of τ xs i d (omega arith) a
