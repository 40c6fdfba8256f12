-- The definitions from here on are read from the tokens from a place on.
use Rattle.std.proofs.Common.{List, ◌≤◌, length, map, drop}
use Rattle.bidi_cddl.specs.Definition.{DefinitionsRead, definition_of}
use Rattle.bidi_cddl.specs.Node.{Node}
use Rattle.bidi_cddl.specs.Steps.{AllRead, tokens_of}
use Rattle.bidi_cddl.proofs.definition_steps.are_definitions.Given as goal

abbrev pub invariant-loop-left : goal.invariant-loop-left
invariant-loop-left l = record {
  read : (nodes : List Node) → AllRead nodes (tokens_of l.tokens) l.steps
      → DefinitionsRead nodes (map definition_of (drop l.left l.definitions)) (drop l.to (tokens_of l.tokens));
  within : l.left ≤ length l.definitions;
}

abbrev pub decreases-loop-left : goal.decreases-loop-left
decreases-loop-left l = l.left
