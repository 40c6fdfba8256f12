use Rattle.std.proofs.Common.{◌≡◌, drop, map}
use Rattle.bidi_blame.specs.View.{step_of}
use Rattle.bidi_blame.specs.Words.{pointer_text}
use Rattle.bidi_remarks.specs.Trouble.{pattern_text}
use Rattle.bidi_remarks.proofs.misfit.has_items.Given as goal

abbrev pub invariant-loop-step : goal.invariant-loop-step
invariant-loop-step l =
    pattern_text (map step_of (drop l.step-index l.steps)) ≡ pointer_text (map step_of (drop l.step-index l.steps))
    → pattern_text (map step_of l.steps) ≡ pointer_text (map step_of l.steps)
