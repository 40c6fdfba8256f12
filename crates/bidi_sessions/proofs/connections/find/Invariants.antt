use Rattle.std.proofs.Common.{◌≡◌, find, drop}
use Rattle.std.specs.Prelude.{◌==◌}
use Rattle.bidi_sessions.proofs.connections.find.Given as goal

-- the connections that were looked at have another number
abbrev pub invariant-loop-connection : goal.invariant-loop-connection
invariant-loop-connection l =
    find (λ c. c.number.value == l.number.value) (drop l.connection-index l.connections)
    ≡ find (λ c. c.number.value == l.number.value) l.connections
