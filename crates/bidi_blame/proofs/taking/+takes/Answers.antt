use Rattle.std.proofs.Common.{◌≡◌, ℕ, List, [], ◌∷◌, true, false, length, map, not, Some, nat_le, arith, refl, sym, ap, ◌∙◌, true≢false}
use Rattle.std.specs.Prelude.{◌==◌}
use Rattle.std.proofs.lemmas.Bool.Decides.{nat_tests}
use Rattle.std.specs.Option.{option_map_or}
use Rattle.bidi_tree.specs.Node.{Node}
use Rattle.bidi_tree.specs.Kind.{list_in}
use Rattle.bidi_tree.specs.Outline.{outline_node, outline_items}
use Rattle.bidi_tree.specs.declared.outline.Outline.{Outline}
use Rattle.bidi_shape.specs.Fits.{count}
use Rattle.bidi_shape.specs.Term.{Term, list_of, pair_of}
use Rattle.bidi_blame.specs.Blames.{takes}
use Rattle.bidi_rules.specs.Grammar.{grammar, one_of}
use Rattle.bidi_rules.specs.declared.term.Term as code
use Rattle.bidi_rules.proofs.GrammarLemmas.{grammar-ListOf, grammar-PairOf, grammar-OneOf}
use Rattle.bidi_blame.proofs.JudgeLemmas.{count-items_of}
use Rattle.bidi_blame.proofs.taking.+takes.Goals as goal

list_taken : (t : Node) (least : ℕ) (τ : Term) (xs : List Outline) → Some (outline_items xs) ≡ list_in t → nat_le least (length xs) ≡ takes t (list_of least τ)
list_taken t least τ xs e =
    ap (nat_le least) (sym (count-items_of outline_node xs)) ∙ ap (λ o. option_map_or (λ ts. nat_le least (count ts)) o false) e

pair_taken : (t : Node) (σ τ : Term) (xs : List Outline) → Some (outline_items xs) ≡ list_in t → (length xs == 2) ≡ takes t (pair_of σ τ)
pair_taken t σ τ xs e =
    ap (λ n. n == 2) (sym (count-items_of outline_node xs)) ∙ ap (λ o. option_map_or (λ ts. count ts == 2) o false) e

choice_taken : (t : Node) (σ : Term) (τs : List code.Term) → true ≡ not (length τs == 0) → true ≡ takes t (one_of σ (map grammar τs))
choice_taken t σ [] e = absurd (true≢false e)
choice_taken t σ (τ ∷ τs) e = refl

single : (σ : Term) (τs : List code.Term) → (length τs == 0) ≡ true → σ ≡ one_of σ (map grammar τs)
single σ [] e = refl
single σ (τ ∷ τs) e = absurd (grind (arith, nat_tests))

pub returns-in-Some-as_items : goal.returns-in-Some-as_items
returns-in-Some-as_items t c =
    let τ = grammar c.in-ListOf.field-1.now in
    let says : grammar c.args.term.now ≡ list_of c.in-ListOf.least τ = ap grammar c.in-ListOf.is ∙ grammar-ListOf c.in-ListOf.least c.in-ListOf.field-1 in
    list_taken (outline_node c.args.tree.now) c.in-ListOf.least τ c.in-Some-as_items.items.now c.in-Some-as_items.ensures
    ∙ ap (takes (outline_node c.args.tree.now)) (sym says)

pub returns-in-Some-as_items-2 : goal.returns-in-Some-as_items-2
returns-in-Some-as_items-2 t c =
    let σ = grammar c.in-PairOf.field-0.now in
    let τ = grammar c.in-PairOf.field-1.now in
    let says : grammar c.args.term.now ≡ pair_of σ τ = ap grammar c.in-PairOf.is ∙ grammar-PairOf c.in-PairOf.field-0 c.in-PairOf.field-1 in
    pair_taken (outline_node c.args.tree.now) σ τ c.in-Some-as_items-2.items.now c.in-Some-as_items-2.ensures
    ∙ ap (takes (outline_node c.args.tree.now)) (sym says)

pub returns-then-not-is_empty : goal.returns-then-not-is_empty
returns-then-not-is_empty t c =
    let σ = grammar c.in-OneOf.first.now in
    let τs = map grammar c.in-OneOf.rest.now in
    let says : grammar c.args.term.now ≡ one_of σ τs = ap grammar c.in-OneOf.is ∙ grammar-OneOf c.in-OneOf.first c.in-OneOf.rest in
    let some : not c.is_empty.result ≡ true = ap not c.if-not-is_empty.true in
    let is : true ≡ not (length c.in-OneOf.rest.now == 0) = sym some ∙ ap not c.is_empty.ensures in
    some ∙ choice_taken (outline_node c.args.tree.now) σ c.in-OneOf.rest.now is ∙ ap (takes (outline_node c.args.tree.now)) (sym says)

pub returns-else-not-is_empty : goal.returns-else-not-is_empty
returns-else-not-is_empty t c =
    let σ = grammar c.in-OneOf.first.now in
    let τs = map grammar c.in-OneOf.rest.now in
    let says : grammar c.args.term.now ≡ one_of σ τs = ap grammar c.in-OneOf.is ∙ grammar-OneOf c.in-OneOf.first c.in-OneOf.rest in
    c.takes.ensures ∙ ap (takes (outline_node c.args.tree.now)) (single σ c.in-OneOf.rest.now (sym c.is_empty.ensures ∙ c.if-not-is_empty.false) ∙ sym says)
