use Rattle.bidi_ledger.specs.Steps.{AreWell}
use Rattle.test_machine.proofs.link.steps.Given as goal

-- each step so far is well
abbrev pub invariant-loop-link : goal.invariant-loop-link
invariant-loop-link l = AreWell l.all.items
