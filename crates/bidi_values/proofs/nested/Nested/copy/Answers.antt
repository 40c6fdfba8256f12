use Rattle.bidi_values.proofs.NestedLemmas.{same_if_well}
use Rattle.bidi_values.proofs.nested.Nested.copy.Goals as goal

pub returns-clause-well : goal.returns-clause-well
returns-clause-well g c = (same_if_well g.P.Nests.nesting c.copy_value.result c.args.self.now c.requires c.copy_value.ensures).0

pub returns-clause-same : goal.returns-clause-same
returns-clause-same g c = (same_if_well g.P.Nests.nesting c.copy_value.result c.args.self.now c.requires c.copy_value.ensures).1
