use Rattle.std.proofs.Common.{◌≡◌, List, [], ◌∷◌, true, false, length, map, refl, sym, ap, ◌∙◌, true≢false}
use Rattle.std.specs.Prelude.{◌==◌}
use Rattle.bidi_shape.specs.Term.{Term}
use Rattle.bidi_rules.specs.Grammar.{grammar, one_of}
use Rattle.bidi_blame.specs.Words.{is_map}
use Rattle.bidi_rules.specs.declared.term.Term as code
use Rattle.bidi_rules.proofs.GrammarLemmas.{grammar-OneOf}
use Rattle.bidi_blame.proofs.wanting.+is_map.Goals as goal

-- a choice of more than one is no map
many : (σ : Term) (τs : List code.Term) → (length τs == 0) ≡ false → false ≡ is_map (one_of σ (map grammar τs))
many σ [] e = absurd (true≢false e)
many σ (τ ∷ τs) e = refl

pub returns-else-is_empty : goal.returns-else-is_empty
returns-else-is_empty t c =
    let σ = grammar c.in-OneOf.first.now in
    let says : grammar c.args.term.now ≡ one_of σ (map grammar c.in-OneOf.rest.now) = ap grammar c.in-OneOf.is ∙ grammar-OneOf c.in-OneOf.first c.in-OneOf.rest in
    c.if-is_empty.false ∙ many σ c.in-OneOf.rest.now (sym c.is_empty.ensures ∙ c.if-is_empty.false) ∙ ap is_map (sym says)
