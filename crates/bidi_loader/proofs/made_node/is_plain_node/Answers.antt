use Rattle.std.proofs.Common.{sym, subst}
use Rattle.bidi_grammar.specs.Source.{Made, of_type}
use Rattle.bidi_grammar.specs.View.{term_of}
use Rattle.bidi_loader.specs.Readings.{plain_view}
use Rattle.bidi_loader.proofs.MadeLemmas.{plain_made}
use Rattle.bidi_loader.proofs.made_node.is_plain_node.Goals as goal

pub returns-in-Some : goal.returns-in-Some
returns-in-Some c = λ h e here ρ g o.
    let τ = term_of c.args.term.now in
    subst (λ σ. Made ρ g o τ (of_type σ)) (sym (c.in-Some.ensures here e)) (plain_made ρ g o τ (plain_view c.in-Some.plain) (c.is_plain.ensures h))
