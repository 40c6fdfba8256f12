use Rattle.std.proofs.Common.{◌∙◌, ◌++◌, ◌+◌, append_assoc, append-nil, map, drop, sym, ap, arith}
use Rattle.std.proofs.lemmas.List.{drop_all}
use Rattle.bidi_rows.specs.View.{event_of, events_of}
use Rattle.bidi_remote.specs.Machine.Outcome.{deeds}
use Rattle.bidi_sessions.specs.View.{sent_of}
use Rattle.bidi_sessions.proofs.ListLemmas.{from-item}
use Rattle.bidi_names.specs.Subscriptions.{named_of}
use Rattle.bidi_scripted.specs.Sending.{emitted, all_emitted}
use Rattle.bidi_scripted.proofs.emitting.push_events.Goals as goal

pub loop-event-preserved : goal.loop-event-preserved
loop-event-preserved c = λ h s.
    let all = c.args.events.now in
    let i = c.loop-event.event-index in
    let x = c.event-item.result in
    let past = deeds h in
    let named = map named_of c.args.named.now in
    let sent = map sent_of c.loop-event.sent.items in
    let rest = all_emitted past named (events_of (drop (i + 1) all)) in
    c.loop-event.invariant h s
    ∙ (ap (λ es. sent ++ all_emitted past named (events_of es)) (from-item all i x (omega arith) c.event-item.is)
    ∙ (sym (append_assoc sent (emitted past named (event_of x)) rest) ∙ ap (λ zs. zs ++ rest) (sym (c.in_ok-push_event.ensures.sends h s))))

pub returns-clause-sends : goal.returns-clause-sends
returns-clause-sends c = λ h s.
    sym (c.loop-event.invariant h s
    ∙ (ap (λ left. map sent_of c.loop-event.sent.items ++ all_emitted (deeds h) (map named_of c.args.named.now) (events_of left))
    (drop_all c.loop-event.event-index c.args.events.now c.loop-event-test.false)
    ∙ append-nil (map sent_of c.loop-event.sent.items)))
