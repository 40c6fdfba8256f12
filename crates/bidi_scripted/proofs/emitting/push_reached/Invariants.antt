use Rattle.std.proofs.Common.{◌≡◌, ◌++◌, List, map, flat_map, drop}
use Rattle.std.specs.Prelude.{filter}
use Rattle.bidi_rows.specs.View.{event_of}
use Rattle.bidi_remote.specs.Machine.History.{Input}
use Rattle.bidi_remote.specs.Machine.Connections.{connections_of}
use Rattle.bidi_remote.specs.Machine.Outcome.{deeds}
use Rattle.bidi_remote.specs.Machine.Sent.{Text}
use Rattle.bidi_remote.specs.State.Stands.{StandsFor}
use Rattle.bidi_sessions.specs.View.{sent_of}
use Rattle.bidi_names.specs.Subscriptions.{named_of}
use Rattle.bidi_names.specs.Names.{event_named}
use Rattle.bidi_scripted.specs.Sending.{reaches}
use Rattle.bidi_scripted.proofs.emitting.push_reached.Given as goal

-- what is left is added to what was sent
abbrev pub invariant-loop-session : goal.invariant-loop-session
invariant-loop-session l =
    (h : List Input) → StandsFor l.end h
    → map sent_of l.initial.sent.items ++ flat_map (λ n. map (λ k. Text k (event_of l.event).text) (connections_of (deeds h) n))
    (filter (reaches (deeds h) (map named_of l.named) (event_of l.event).method (event_named (event_of l.event).method) l.top) l.sessions)
    ≡ map sent_of l.sent.items ++ flat_map (λ n. map (λ k. Text k (event_of l.event).text) (connections_of (deeds h) n))
    (filter (reaches (deeds h) (map named_of l.named) (event_of l.event).method (event_named (event_of l.event).method) l.top) (drop l.session-index l.sessions))
