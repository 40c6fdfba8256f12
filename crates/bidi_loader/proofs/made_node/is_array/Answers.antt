use Rattle.std.proofs.Common.{sym, subst}
use Rattle.bidi_cddl.specs.declared.written.Node.TheVariants as node
use Rattle.bidi_grammar.specs.Source.{Made, of_type}
use Rattle.bidi_grammar.specs.View.{term_of}
use Rattle.bidi_loader.specs.Meaning.{array_type}
use Rattle.bidi_loader.specs.Readings.{ItemsOf, source_at}
use Rattle.bidi_loader.proofs.ReadingLemmas.{both_at}
use Rattle.bidi_loader.proofs.made_node.is_array.Goals as goal

pub returns : goal.returns
returns c = λ h r group here ρ g.
    let w = c.args.written.now in
    let items = c.args.reading.now.items.items in
    let e = both_at (ItemsOf w) w.nodes.items items c.args.k (node.Array group) c.index.result.now r.items here.0 here.1 c.index.ensures in
    subst (λ x. Made ρ g (source_at w c.args.reading.now c.args.origins.now) (term_of c.args.term.now) (of_type (array_type x))) (sym e) (c.is_array_of.ensures h ρ g)
