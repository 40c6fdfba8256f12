use Rattle.std.proofs.Common.{[], map, subst, sym}
use Rattle.bidi_cddl.specs.Definition.{RulesMade, nothing, rule_of}
use Rattle.bidi_cddl.specs.Steps.{nodes_of}
use Rattle.bidi_cddl.proofs.rules.rules_of.Goals as goal

pub loop-definition-init : goal.loop-definition-init
loop-definition-init c = subst (λ xs. RulesMade (nodes_of c.args.nodes.items) [] (map rule_of xs)) (sym c.new-rules.ensures.items) nothing
