-- The inputs and the steps of a play that are kept for a session. This project's own.
use Rattle.std.specs.Prelude.{ℕ, Bool, not, List, [], ◌∷◌}
use Rattle.std.specs.List.{items_where_true}
use Rattle.bidi_sessions.specs.Step.{Step}
use Rattle.bidi_remote.specs.Machine.History.{Input}
use Rattle.bidi_remote.specs.Machine.Outcome.{deeds}
use Rattle.bidi_remote.specs.Strike.{is_struck}

-- for each input after a history, whether it is kept for the session
abbrev pub keeps_after : List Input → ℕ → List Input → List Bool
keeps_after history s [] = []
keeps_after history s (i ∷ inputs) = not (is_struck (deeds history) s i) ∷ keeps_after (i ∷ history) s inputs

-- the inputs of a play that are kept for a session
abbrev pub strike : List Input → ℕ → List Input
strike inputs s = items_where_true (keeps_after [] s inputs) inputs

-- the steps of a play that are kept for a session, if these are the inputs as which they are heard
abbrev pub strike_steps : List Step → List Input → ℕ → List Step
strike_steps steps inputs s = items_where_true (keeps_after [] s inputs) steps
