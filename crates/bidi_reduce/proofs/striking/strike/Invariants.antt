-- The end has taken what is kept of the steps so far, and these are kept.
use Rattle.std.proofs.Common.{◌≡◌, List, map, take}
use Rattle.bidi_remote.specs.Machine.History.{Input, AreHeardAs}
use Rattle.bidi_reduce.specs.Kept.{strike_steps}
use Rattle.bidi_sessions.specs.View.{step_of}
use Rattle.bidi_reduce.specs.Follows.{Follows}
use Rattle.bidi_reduce.proofs.striking.strike.Given as goal

abbrev pub invariant-loop-step : goal.invariant-loop-step
invariant-loop-step l = (inputs : List Input) × (record {
  follows : Follows l.end l.session inputs;
  heard : AreHeardAs (map step_of (take l.step-index l.steps)) inputs;
  kept : map step_of l.kept.items ≡ strike_steps (map step_of (take l.step-index l.steps)) inputs l.session;
})
