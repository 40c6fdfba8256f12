-- Each step so far is read.
use Rattle.std.proofs.Common.{◌≡◌, ℕ, ◌<◌}
use Rattle.std.specs.Prelude.{Some, slice_get}
use Rattle.bidi_cddl.specs.Steps.{StepReads, level_of, nodes_of, tokens_of}
use Rattle.bidi_cddl.specs.declared.step.Step.{Step}
use Rattle.bidi_cddl.proofs.checking.are_right.Given as goal

abbrev pub invariant-loop-i : goal.invariant-loop-i
invariant-loop-i l =
    (j : ℕ) (t : Step) → j < l.i → slice_get l.steps j ≡ Some t → StepReads (level_of t.form) (nodes_of l.nodes) (tokens_of l.tokens) t
