use Rattle.std.proofs.Common.{◌≡◌, map}
use Rattle.bidi_sessions.specs.ConnectionRows.{row_of, begun}
use Rattle.bidi_sessions.proofs.BeginLemmas.{over}
use Rattle.bidi_sessions.proofs.connections.begin.Given as goal

-- the rows that were looked at have begun
abbrev pub invariant-loop-connection : goal.invariant-loop-connection
invariant-loop-connection l = map row_of l.connections ≡ over (begun l.number.value l.session) l.connection-index (map row_of l.initial.connections)
