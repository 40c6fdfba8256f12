use Rattle.std.proofs.Common.{◌≡◌, ◌++◌, map, drop}
use Rattle.json.specs.Value.{value_view}
use Rattle.bidi_rows.specs.Filling.{filling_of, filled_text, template_of}
use Rattle.bidi_remote.specs.Machine.Sent.{Text}
use Rattle.bidi_sessions.specs.View.{sent_of}
use Rattle.bidi_scripted.proofs.following.fill_all.Given as goal

-- what was filled and what is left are all
abbrev pub invariant-loop-event : goal.invariant-loop-event
invariant-loop-event l =
    map (λ e. Text l.conn.value (filled_text (filling_of (value_view l.params)) (template_of e))) l.events
    ≡ map sent_of l.sent.items ++ map (λ e. Text l.conn.value (filled_text (filling_of (value_view l.params)) (template_of e))) (drop l.event-index l.events)
