-- What it means that some steps are those of a play that are kept for a session.
use Rattle.std.specs.Prelude.{◌≡◌, ℕ, List}
use Rattle.bidi_sessions.specs.Step.{Step}
use Rattle.bidi_remote.specs.Machine.History.{Input, AreHeardAs}
use Rattle.bidi_reduce.specs.Kept.{strike, strike_steps}
use Rattle.bidi_reduce.specs.Seen.{sees}

-- The second list has the steps that are kept for the session. It sees the same of both lists, and nothing more would be struck.
pub record Strikes (s : ℕ) (steps : List Step) (kept : List Step) : Type 0 where
  pub inputs : List Input
  pub heard : AreHeardAs steps inputs
  pub left : kept ≡ strike_steps steps inputs s
  pub heard_left : AreHeardAs kept (strike inputs s)
  pub same : sees inputs s ≡ sees (strike inputs s) s
  pub again : strike (strike inputs s) s ≡ strike inputs s
