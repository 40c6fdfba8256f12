use Rattle.std.proofs.Common.{◌≡◌, ◌++◌, List, map, drop}
use Rattle.bidi_rows.specs.View.{events_of}
use Rattle.bidi_remote.specs.Machine.History.{Input}
use Rattle.bidi_remote.specs.Machine.Outcome.{deeds}
use Rattle.bidi_remote.specs.State.Stands.{StandsFor}
use Rattle.bidi_sessions.specs.View.{sent_of}
use Rattle.bidi_names.specs.Subscriptions.{named_of}
use Rattle.bidi_scripted.specs.Sending.{all_emitted}
use Rattle.bidi_scripted.proofs.emitting.push_events.Given as goal

-- what is left is added to what was sent
abbrev pub invariant-loop-event : goal.invariant-loop-event
invariant-loop-event l =
    (h : List Input) → StandsFor l.end h → map sent_of l.initial.sent.items ++ all_emitted (deeds h) (map named_of l.named) (events_of l.events)
    ≡ map sent_of l.sent.items ++ all_emitted (deeds h) (map named_of l.named) (events_of (drop l.event-index l.events))
