use Rattle.std.proofs.Common.{◌≡◌, ◌++◌, map, drop}
use Rattle.std.specs.Prelude.{flat_map, filter, string_bytes}
use Rattle.bidi_remote.specs.Machine.Sent.{Text}
use Rattle.bidi_sessions.specs.ConnectionRows.{rows_in, to_each}
use Rattle.bidi_sessions.specs.SubscriptionRows.{any_covers}
use Rattle.bidi_active.specs.SessionView.{session_row_of}
use Rattle.bidi_sessions.specs.View.{sent_of}
use Rattle.bidi_remote.proofs.telling.push_heard.Given as goal

-- what is left is added to what was sent
abbrev pub invariant-loop-session : goal.invariant-loop-session
invariant-loop-session l =
    map sent_of l.initial.sent.items ++ flat_map (λ r. to_each (λ c. Text c (string_bytes l.text.value)) r.number (rows_in l.connections))
    (filter (λ r. any_covers r.subscriptions l.event l.top) (map session_row_of l.sessions))
    ≡ map sent_of l.sent.items ++ flat_map (λ r. to_each (λ c. Text c (string_bytes l.text.value)) r.number (rows_in l.connections))
    (filter (λ r. any_covers r.subscriptions l.event l.top) (map session_row_of (drop l.session-index l.sessions)))
