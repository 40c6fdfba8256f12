use Rattle.std.proofs.Common.{◌≡◌, ◌++◌, map, drop}
use Rattle.std.specs.Prelude.{string_bytes}
use Rattle.bidi_sessions.specs.View.{sent_of}
use Rattle.bidi_sessions.specs.Sent.{Text}
use Rattle.bidi_sessions.specs.ConnectionRows.{row_of, to_each}
use Rattle.bidi_sessions.proofs.connections.push_text.Given as goal

-- what is left is added to what was sent
abbrev pub invariant-loop-connection : goal.invariant-loop-connection
invariant-loop-connection l =
    map sent_of l.sent.items ++ to_each (λ c. Text c (string_bytes l.text.value)) l.session (map row_of (drop l.connection-index l.connections))
    ≡ map sent_of l.initial.sent.items ++ to_each (λ c. Text c (string_bytes l.text.value)) l.session (map row_of l.connections)
