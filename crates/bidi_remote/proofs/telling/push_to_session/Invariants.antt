use Rattle.std.proofs.Common.{◌≡◌, ◌++◌, map, drop}
use Rattle.std.specs.Prelude.{flat_map}
use Rattle.bidi_sessions.specs.ConnectionRows.{rows_in}
use Rattle.bidi_active.specs.Written.{written_in}
use Rattle.bidi_remote.specs.State.Routes.{to_one}
use Rattle.bidi_sessions.specs.View.{sent_of}
use Rattle.bidi_remote.proofs.telling.push_to_session.Given as goal

-- the texts that were looked at were sent
abbrev pub invariant-loop-event : goal.invariant-loop-event
invariant-loop-event l =
    map sent_of l.initial.sent.items ++ flat_map (λ w. to_one (rows_in l.connections) l.session w.text) (written_in l.texts)
    ≡ map sent_of l.sent.items ++ flat_map (λ w. to_one (rows_in l.connections) l.session w.text) (written_in (drop l.event-index l.texts))
