use Rattle.bidi_values.proofs.NestedLemmas.{two_read}
use Rattle.bidi_values.proofs.reading.two_items.Goals as goal

pub returns-in-Some : goal.returns-in-Some
returns-in-Some g c =
    two_read g.S.Parsed.tree c.exactly_two.result (g.S.Parsed.tree c.args.tree.now) c.in-Some.items.now c.in-Some.ensures c.exactly_two.ensures
