use Rattle.std.proofs.Common.{refl, sym, subst}
use Rattle.bidi_grammar.specs.Source.{Made, made_either, either, of_type}
use Rattle.bidi_grammar.specs.View.{term_of}
use Rattle.bidi_loader.specs.Meaning.{type_at, written_trees}
use Rattle.bidi_loader.specs.Readings.{source_at}
use Rattle.bidi_loader.proofs.made_node.is_either.Goals as goal

pub returns-else-not-is_type_of : goal.returns-else-not-is_type_of
returns-else-not-is_type_of c = λ h ρ g.
    let w = c.args.written.now in
    let o = source_at w c.args.reading.now c.args.origins.now in
    let σ = type_at (written_trees w) c.args.first in
    let τ = type_at (written_trees w) c.args.second in
    subst (λ t. Made ρ g o (term_of t) (of_type (either σ τ))) (sym c.in-Either.is)
    (made_either c.in-Either.m c.in-Either.n σ τ (c.if-not-is_type_of.ensures refl) (c.is_type_of-in-Either.ensures h))
