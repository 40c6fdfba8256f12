use Rattle.std.proofs.Common.{◌≡◌, ◌++◌, map, drop}
use Rattle.std.specs.Prelude.{flat_map}
use Rattle.std.specs.List.{AllByRecursion}
use Rattle.bidi_methods.specs.contracts.event_data.EventDataPayloadEventName.TheImpl.{ghosts}
use Rattle.bidi_sessions.specs.ConnectionRows.{rows_in}
use Rattle.bidi_remote.specs.Machine.Messages.{AllReadBack}
use Rattle.bidi_remote.specs.State.Routes.{to_all}
use Rattle.bidi_active.specs.SessionView as sessions
use Rattle.bidi_contexts.specs.View.{seen}
use Rattle.bidi_sessions.specs.View.{sent_of}
use Rattle.bidi_remote.proofs.telling.push_events.Given as goal

-- what is left is added to what was sent, which reads back if what was sent before does
abbrev pub invariant-loop-occurrence : goal.invariant-loop-occurrence
invariant-loop-occurrence l = AllByRecursion (λ o. ghosts.payload.well o.event) (drop l.occurrence-index l.occurrences) × (
    map sent_of l.initial.sent.items ++ flat_map (to_all (sessions.rows_in l.state.sessions) (rows_in l.state.connections)) (seen l.occurrences)
    ≡ map sent_of l.sent.items ++ flat_map (to_all (sessions.rows_in l.state.sessions) (rows_in l.state.connections))
    (seen (drop l.occurrence-index l.occurrences)))
    × (AllReadBack (map sent_of l.initial.sent.items) → AllReadBack (map sent_of l.sent.items))
