use Rattle.std.proofs.Common.{◌≡◌, ◌+◌, length, map}
use Rattle.std.specs.Prelude.{replicate}
use Rattle.bidi_active.specs.Written.{Written, written_in}
use Rattle.bidi_active.specs.SessionView.{session_row_of}
use Rattle.bidi_active.specs.SessionRows.{logged}
use Rattle.bidi_sessions.proofs.BeginLemmas.{over}
use Rattle.bidi_active.proofs.CopyLemmas.{AreCopies}
use Rattle.bidi_active.proofs.sessions.log.Given as goal

-- the sessions that were looked at heard the entry or missed it, and a copy is left for each other
abbrev pub invariant-loop-session : goal.invariant-loop-session
invariant-loop-session l = (w : Written) → written_in l.initial.copies.items ≡ replicate (length l.initial.sessions) w
    → AreCopies w l.copies.items × (length l.copies.items + l.session-index ≡ length l.initial.sessions)
    × (map session_row_of l.sessions ≡ over (logged w) l.session-index (map session_row_of l.initial.sessions))
