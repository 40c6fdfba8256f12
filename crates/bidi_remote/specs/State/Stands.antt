-- The histories that a remote end stands for.
use Rattle.std.specs.Prelude.{◌≡◌, ℕ, ◌<◌, List, ◌∷◌, length}
use Rattle.std.specs.List.{AllByRecursion}
use Rattle.bidi_remote.specs.declared.remote_end.RemoteEnd.{RemoteEnd}
use Rattle.bidi_remote.specs.declared.state.State.{State}
use Rattle.bidi_browser.specs.Stands as browser
use Rattle.bidi_remote.specs.Machine.History.{Deed, Input, acts, moment}
use Rattle.bidi_remote.specs.Machine.Sessions.{sessions_made}
use Rattle.bidi_remote.specs.Machine.LogBuffer.{missed}
use Rattle.bidi_remote.specs.Machine.Outcome.{deeds}
use Rattle.bidi_remote.specs.Machine.Sent.{Sent, out}
use Rattle.bidi_remote.specs.Machine.Messages.{AllReadBack}
use Rattle.bidi_sessions.specs.ConnectionRows as connections
use Rattle.bidi_remote.specs.State.ConnectionRows.{rows}
use Rattle.bidi_remote.specs.State.SessionRows.{session_rows}
use Rattle.bidi_remote.specs.State.MissedRows.{IsEntry}
use Rattle.bidi_active.specs.SessionView as sessions
use Rattle.bidi_sessions.specs.Limits.{most_steps}

-- The tables of the state have what the past leads to.
pub record AgreeWith (state : State) (past : List Deed) : Type 0 where
  pub moment : state.moment.value ≡ moment past
  pub made : state.sessions.made ≡ sessions_made past
  pub sessions : sessions.rows_in state.sessions ≡ session_rows past
  pub connections : connections.rows_in state.connections ≡ rows past
  pub browser : browser.StandsFor state.browser (acts past)
  -- What a session missed are log entries, whose messages read back.
  pub entries : (s : ℕ) → AllByRecursion IsEntry (missed past s)

-- The tables agree with each history that they agreed with before.
abbrev pub Keeps : State → State → Type 0
Keeps old new = (h : List Input) → AgreeWith old (deeds h) → AgreeWith new (deeds h)

-- The history has fewer steps than a remote end accepts.
abbrev pub IsShort : List Input → Type 0
IsShort history = length history < most_steps

-- What is sent at an input after a history is what the machine sends, each string reads back, and the tables agree afterwards.
pub record Takes (after : State) (sent : List Sent) (history : List Input) (i : Input) : Type 0 where
  pub sends : sent ≡ out history i
  pub reads_back : AllReadBack sent
  pub agree : AgreeWith after (deeds (i ∷ history))

-- The tables agree with the past of the history, and the count of steps is its length.
pub record StandsFor (end : RemoteEnd) (history : List Input) : Type 0 where
  pub state : AgreeWith end.state (deeds history)
  pub count : end.count ≡ length history
