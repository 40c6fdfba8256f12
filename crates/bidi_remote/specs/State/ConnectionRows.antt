-- The table of open connections that a past makes.
use Rattle.std.specs.Prelude.{ℕ, List, map, Option, Some, None, Result, Ok, Err}
use Rattle.bidi_sessions.specs.ConnectionRows.{ConnectionRow}
use Rattle.bidi_remote.specs.Machine.History.{Deed, Opened}
use Rattle.bidi_remote.specs.Machine.Connections.{attachment_of, open_connections}
use Rattle.bidi_remote.specs.Machine.Outcome.{NotTaken, Denied}

-- the rows that a past leads to
abbrev pub rows : List Deed → List ConnectionRow
rows past = map (λ c. (c, attachment_of past c)) (open_connections past)

-- what an opening does: the connection is opened for a session or for none, or denied
abbrev pub opening_by : ℕ → Option (Option ℕ) → Result Deed NotTaken
opening_by c None = Err (Denied c)
opening_by c (Some s) = Ok (Opened c s)
