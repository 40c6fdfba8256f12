use Rattle.std.proofs.Common.{sym, subst}
use Rattle.bidi_grammar.specs.Source.{Made, of_type}
use Rattle.bidi_grammar.specs.View.{table, term_of}
use Rattle.bidi_loader.specs.Meaning.{rules_of}
use Rattle.bidi_loader.specs.Readings.{plain_view, source_at}
use Rattle.bidi_loader.proofs.MadeLemmas.{plain_made}
use Rattle.bidi_loader.proofs.made_node.is_name.Goals as goal

pub returns-in-Some : goal.returns-in-Some
returns-in-Some c = λ h.
    let ρ = rules_of c.args.written.now in
    let g = table c.args.terms.now in
    let o = source_at c.args.written.now c.args.reading.now c.args.origins.now in
    let τ = term_of c.args.term.now in
    subst (λ σ. Made ρ g o τ (of_type σ)) (sym c.in-Some.ensures) (plain_made ρ g o τ (plain_view c.in-Some.plain) (c.is_plain.ensures h))
