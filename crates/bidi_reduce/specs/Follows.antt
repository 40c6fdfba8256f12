-- The state of a remote end that takes only the inputs of a play that are kept for a session.
use Rattle.std.specs.Prelude.{ℕ, ◌≤◌, Bool, not, List, length, reverse}
use Rattle.bidi_remote.specs.declared.remote_end.RemoteEnd.{RemoteEnd}
use Rattle.bidi_remote.specs.Machine.History.{Input}
use Rattle.bidi_remote.specs.Machine.Outcome.{deeds}
use Rattle.bidi_remote.specs.Strike.{is_struck}
use Rattle.bidi_remote.specs.State.Stands.{StandsFor}
use Rattle.bidi_reduce.specs.Own.{Alike}

-- whether an input is kept for the session after these inputs
abbrev pub is_kept : ℕ → List Input → Input → Bool
is_kept s inputs i = not (is_struck (deeds (reverse inputs)) s i)

-- The end has taken some of these inputs, and its past is alike for the session to that of all of them.
pub record Follows (end : RemoteEnd) (s : ℕ) (inputs : List Input) : Type 0 where
  pub taken : List Input
  pub stands : StandsFor end taken
  pub alike : Alike s (deeds (reverse inputs)) (deeds taken)
  pub few : length taken ≤ length inputs
