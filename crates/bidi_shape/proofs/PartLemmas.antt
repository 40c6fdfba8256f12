-- Laws of the parts of values: lists, optional values, and their levels.
use Rattle.std.proofs.Common.{ℕ, zero, suc, ◌++◌, ◌≤◌, ◌<◌, length, map, get_or, arith}
use Rattle.std.specs.Prelude.{◌≡◌, List, [], ◌∷◌, Option, Some, None, IfSome, refl}
use Rattle.std.proofs.Common.{sym, ap, ◌∙◌, take, ◌+◌}
use Rattle.std.proofs.lemmas.List.{map-append, take_more}
use Rattle.std.specs.List.{AllByRecursion}
use Rattle.bidi_tree.specs.Node.{Node, levels, items_levels}
use Rattle.bidi_tree.specs.View.{items_of}
use Rattle.bidi_tree.specs.Outline.{outline_node}
use Rattle.bidi_tree.specs.declared.outline.Outline.{Outline}
use Rattle.bidi_shape.specs.Term.{text}
use Rattle.bidi_shape.specs.ChoiceLaws.{NullableWell}
use Rattle.bidi_shape.proofs.FitsTest.{misfits_by}

pub each_well : {X : Type 0} {P : X → Type 0} → ((x : X) → P x) → (xs : List X) → AllByRecursion P xs
each_well all [] = tt
each_well all (x ∷ xs) = (all x, each_well all xs)

pub some_well : {X : Type 0} {P : X → Type 0} → ((x : X) → P x) → (o : Option X) → IfSome o P
some_well all None = tt
some_well all (Some x) = all x

-- a text or null is well, whatever it is
pub text_or_null_well : {X : Type 0} {P : X → Type 0} → ((x : X) → P x) → (o : Option X) → NullableWell P text o
text_or_null_well all None = misfits_by 1 refl
text_or_null_well all (Some x) = all x

pub item_levels : {X : Type 0} (tree_of : X → Node) (xs : List X) (i : ℕ) (d : X)
    → i < length xs → levels (tree_of (get_or xs i d)) ≤ items_levels (items_of (map tree_of xs))
item_levels tree_of [] i d h = absurd (omega arith)
item_levels tree_of (x ∷ xs) zero d h = omega arith
item_levels tree_of (x ∷ xs) (suc i) d h = let rest = item_levels tree_of xs i d (omega arith) in omega (arith, rest)

-- outlines of the items of a list, made one after the other
pub next-outlined : {X : Type 0} (tree_of : X → Node) (xs : List X) (i : ℕ) (x : X) (ds new : List Outline) (d : Outline) → new ≡ ds ++ d ∷ [] → i < length xs
    → map outline_node ds ≡ map tree_of (take i xs) → outline_node d ≡ tree_of x → x ≡ get_or xs i x → map outline_node new ≡ map tree_of (take (i + 1) xs)
next-outlined tree_of xs i x ds new d is few same one at =
    let more : take (i + 1) xs ≡ take i xs ++ x ∷ [] = take_more xs i x few ∙ ap (λ y. take i xs ++ y ∷ []) (sym at) in
    ap (map outline_node) is ∙ map-append outline_node ds (d ∷ []) ∙ ap (λ ns. ns ++ outline_node d ∷ []) same ∙ ap (λ n. map tree_of (take i xs) ++ n ∷ []) one
    ∙ sym (map-append tree_of (take i xs) (x ∷ [])) ∙ ap (map tree_of) (sym more)
