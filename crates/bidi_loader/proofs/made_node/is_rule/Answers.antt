use Rattle.std.proofs.Common.{refl, sym, subst}
use Rattle.bidi_grammar.specs.Term.{rule}
use Rattle.bidi_grammar.specs.Source.{Made, made_name, name, of_type}
use Rattle.bidi_grammar.specs.View.{term_of}
use Rattle.bidi_loader.specs.Meaning.{rules_of, type_at, written_trees}
use Rattle.bidi_loader.specs.Readings.{source_at}
use Rattle.bidi_loader.proofs.made_node.is_rule.Goals as goal

pub returns-else-not-is_same_text-clause-made : goal.returns-else-not-is_same_text-clause-made
returns-else-not-is_same_text-clause-made c = λ h g.
    let w = c.args.written.now in
    let ρ = rules_of w in
    let o = source_at w c.args.reading.now c.args.origins.now in
    let k = c.args.name.now in
    let σ = type_at (written_trees w) c.in-Some.node in
    subst (λ t. Made ρ g o (term_of t) (of_type (name k))) (sym c.in-Rule.is)
    (subst (λ l. Made ρ g o (rule l c.in-Rule.place) (of_type (name k))) (sym (c.if-not-is_same_text.ensures refl))
    (made_name k c.in-Rule.place σ (sym c.in-Some.ensures) (c.is_type_of.ensures h)))
