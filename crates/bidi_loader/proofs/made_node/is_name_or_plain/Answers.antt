use Rattle.std.proofs.Common.{sym, subst}
use Rattle.bidi_cddl.specs.declared.written.Node.TheVariants as node
use Rattle.bidi_grammar.specs.Source.{Made, of_type}
use Rattle.bidi_grammar.specs.View.{table, term_of}
use Rattle.bidi_loader.specs.Meaning.{rules_of}
use Rattle.bidi_loader.specs.Readings.{IsNode, source_at}
use Rattle.bidi_loader.proofs.NodeLemmas.{type-is}
use Rattle.bidi_loader.proofs.made_node.is_name_or_plain.Goals as goal

pub returns-in-Name : goal.returns-in-Name
returns-in-Name c = λ h r here.
    let w = c.args.written.now in
    subst (λ σ. Made (rules_of w) (table c.args.terms.now) (source_at w c.args.reading.now c.args.origins.now) (term_of c.args.term.now) (of_type σ))
    (sym (type-is w c.args.k (node.Name c.in-Name.name) (subst (λ n. IsNode w c.args.k n) c.in-Name.is here))) (c.is_name.ensures h)
