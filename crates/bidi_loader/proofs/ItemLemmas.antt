-- Items of arrays, one after the other.
use Rattle.std.proofs.Common.{◌≡◌, ◌<◌, ℕ, List, [], ◌∷◌, ◌++◌, refl, sym, ap, ◌∙◌}
use Rattle.std.specs.Prelude.{Result, Ok, Err, IfOk}
use Rattle.bidi_loader.specs.declared.items.Items as code_items
use Rattle.bidi_loader.specs.Readings.{items_view}
use Rattle.bidi_grammar.specs.Source.{Written, Parts, no_parts, part}
use Rattle.bidi_cddl.specs.declared.written.Occurs.{Occurs}
use Rattle.bidi_cddl.specs.declared.written.Occurs.TheVariants.{Once, Optional, AtLeast}
use Rattle.bidi_cddl.specs.declared.written.Node.TheVariants as node
use Rattle.bidi_cddl.specs.declared.written.Written as code
use Rattle.bidi_loader.specs.Meaning.{Tree, Items, these, many, left_out, type_at, items_at, parts_at, parts_then, items_then, item, items_again, written_trees}
use Rattle.bidi_loader.specs.Readings.{IsNode}
use Rattle.bidi_loader.proofs.NodeLemmas.{both_items-is}

-- nothing behind some parts
parts_then-nil : (ps : Parts) → parts_then ps no_parts ≡ ps
parts_then-nil no_parts = refl
parts_then-nil (part σ ps) = ap (part σ) (parts_then-nil ps)

-- parts behind parts behind parts
parts_then_assoc : (ps qs rs : Parts) → parts_then (parts_then ps qs) rs ≡ parts_then ps (parts_then qs rs)
parts_then_assoc no_parts qs rs = refl
parts_then_assoc (part σ ps) qs rs = ap (part σ) (parts_then_assoc ps qs rs)

-- the parts of two lists of nodes
pub parts_at-append : (trees : List Tree) (ps qs : List ℕ) → parts_at trees (ps ++ qs) ≡ parts_then (parts_at trees ps) (parts_at trees qs)
parts_at-append trees [] qs = refl
parts_at-append trees (p ∷ ps) qs = ap (part (type_at trees p)) (parts_at-append trees ps qs)

-- parts and parts behind them
pub these_then : (ps qs : Parts) → items_then (these ps) (these qs) ≡ these (parts_then ps qs)
these_then no_parts qs = refl
these_then (part σ ps) qs = refl

-- parts, parts and items behind them
items_then_assoc : (ps qs : Parts) (x : Items) → items_then (these (parts_then ps qs)) x ≡ items_then (these ps) (items_then (these qs) x)
items_then_assoc no_parts qs x = refl
items_then_assoc (part σ ps) no_parts x = ap (λ (rs : Parts). items_then (these (part σ rs)) x) (parts_then-nil ps)
items_then_assoc (part σ ps) (part τ qs) (these rs) = ap (λ (vs : Parts). these (part σ vs)) (parts_then_assoc ps (part τ qs) rs)
items_then_assoc (part σ ps) (part τ qs) (many n υ) = refl
items_then_assoc (part σ ps) (part τ qs) left_out = refl

-- one step along the items of a group
pub spine-step : (w : code.Written) (parts found more : List ℕ) (place first rest : ℕ) (x : Items) → IsNode w place (node.Both first rest)
    → first < place → rest < place → more ≡ parts ++ found → items_at (written_trees w) first ≡ these (parts_at (written_trees w) found)
    → items_then (these (parts_at (written_trees w) parts)) (items_at (written_trees w) place) ≡ x
    → items_then (these (parts_at (written_trees w) more)) (items_at (written_trees w) rest) ≡ x
spine-step w parts found more place first rest x here l m e f h =
    let trees = written_trees w in
    let ps = parts_at trees parts in
    let qs = parts_at trees found in
    let tail = items_at trees rest in
    let all : items_at trees place ≡ items_then (these qs) tail =
    both_items-is w place first rest here l m ∙ ap (λ (y : Items). items_then y tail) f in
    ap (λ (ns : List ℕ). items_then (these (parts_at trees ns)) tail) e
    ∙ ap (λ (rs : Parts). items_then (these rs) tail) (parts_at-append trees parts found)
    ∙ items_then_assoc ps qs tail
    ∙ ap (items_then (these ps)) (sym all)
    ∙ h

-- a last part
pub these_more : (trees : List Tree) (parts found more : List ℕ) → more ≡ parts ++ found
    → items_then (these (parts_at trees parts)) (these (parts_at trees found)) ≡ these (parts_at trees more)
these_more trees parts found more e =
    these_then (parts_at trees parts) (parts_at trees found)
    ∙ ap these (sym (parts_at-append trees parts found))
    ∙ ap (λ (ns : List ℕ). these (parts_at trees ns)) (sym e)

-- an item in parentheses
pub again-item : (occurs : Occurs) (σ : Written) → items_again occurs (item Once σ) ≡ item occurs σ
again-item Once σ = refl
again-item Optional σ = refl
again-item (AtLeast n) σ = refl

-- an item, by the node of its type
pub item_is : {E : Type 0} (r : Result code_items.Items E) (trees : List Tree) (x : Items) (occurs : Occurs) (i k : ℕ)
    → (i < k → x ≡ item occurs (type_at trees i))
    → IfOk r (λ items. (i < k) × ((ts : List Tree) → item occurs (type_at ts i) ≡ items_view ts items))
    → IfOk r (λ items. x ≡ items_view trees items)
item_is (Ok items) trees x occurs i k f h = f h.0 ∙ h.1 trees
item_is (Err e) trees x occurs i k f h = tt
