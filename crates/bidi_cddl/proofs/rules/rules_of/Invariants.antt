-- The rules so far are those of the definitions so far.
use Rattle.std.proofs.Common.{map, take}
use Rattle.bidi_cddl.specs.Adding.{nodes_in, rules_in}
use Rattle.bidi_cddl.specs.Definition.{RulesMade, definition_of}
use Rattle.bidi_cddl.proofs.rules.rules_of.Given as goal

abbrev pub invariant-loop-definition : goal.invariant-loop-definition
invariant-loop-definition l = RulesMade (nodes_in l.written) (map definition_of (take l.definition-index l.definitions)) (rules_in l.written)
