use Rattle.std.proofs.Common.{◌∙◌, ◌++◌, ◌+◌, append_assoc, append-nil, map, drop, sym, ap, arith}
use Rattle.std.specs.Prelude.{flat_map, string_bytes}
use Rattle.std.proofs.lemmas.List.{drop_all}
use Rattle.bidi_sessions.specs.ConnectionRows.{rows_in}
use Rattle.bidi_active.specs.Written.{written_in}
use Rattle.bidi_remote.specs.State.Routes.{to_one}
use Rattle.bidi_sessions.specs.View.{sent_of}
use Rattle.bidi_sessions.proofs.ListLemmas.{from-item}
use Rattle.bidi_remote.proofs.telling.push_to_session.Goals as goal

pub loop-event-preserved : goal.loop-event-preserved
loop-event-preserved c =
    let texts = c.args.texts.now in
    let i = c.loop-event.event-index in
    let x = c.event-item.result in
    let s = c.args.session in
    let rows = rows_in c.args.connections.now in
    let sent = map sent_of c.loop-event.sent.items in
    let rest = flat_map (λ w. to_one rows s w.text) (written_in (drop (i + 1) texts)) in
    c.loop-event.invariant
    ∙ (ap (λ left. sent ++ flat_map (λ w. to_one rows s w.text) (written_in left)) (from-item texts i x (omega arith) c.event-item.is)
    ∙ (sym (append_assoc sent (to_one rows s (string_bytes x.value.text.value)) rest) ∙ ap (λ zs. zs ++ rest) (sym (c.in_ok-push_text.ensures
    ∙ ap (λ text. sent ++ to_one rows s text) (ap (λ e. string_bytes e.text.value) c.deref.ensures)))))

pub returns : goal.returns
returns c =
    sym (c.loop-event.invariant
    ∙ (ap (λ left. map sent_of c.loop-event.sent.items ++ flat_map (λ w. to_one (rows_in c.args.connections.now) c.args.session w.text) (written_in left))
    (drop_all c.loop-event.event-index c.args.texts.now c.loop-event-test.false)
    ∙ append-nil (map sent_of c.loop-event.sent.items)))
