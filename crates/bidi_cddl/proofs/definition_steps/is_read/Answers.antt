use Rattle.bidi_cddl.specs.Steps.{nodes_of}
use Rattle.bidi_cddl.proofs.definition_steps.is_read.Goals as goal

pub returns : goal.returns
returns c = λ right. c.are_definitions.ensures right (nodes_of c.args.nodes.now) (c.are_right.ensures c.if-not-are_right.false)
