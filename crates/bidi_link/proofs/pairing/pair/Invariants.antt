use Rattle.std.proofs.Common.{◌≡◌, [], ◌++◌, length, reverse}
use Rattle.std.specs.Prelude.{List}
use Rattle.bidi_ledger.specs.Ledger.{PairInput, past_after}
use Rattle.bidi_ledger.specs.declared.pair_step.PairStep.{PairStep}
use Rattle.bidi_link.specs.Stands.{StandsFor, IsSane}
use Rattle.bidi_ledger.specs.Steps.{AreHeardAs}
use Rattle.bidi_link.proofs.pairing.pair.Given as goal

-- some steps are done, and the others are left
abbrev pub invariant-loop-step : goal.invariant-loop-step
invariant-loop-step l =
    (done : List PairStep) × (inputs : List PairInput) × AreHeardAs done inputs
    × StandsFor l.ends (past_after [] inputs) × IsSane (past_after [] inputs) × (l.fn.steps.items ≡ done ++ reverse l.left.items)

abbrev pub decreases-loop-step : goal.decreases-loop-step
decreases-loop-step l = length l.left.items
