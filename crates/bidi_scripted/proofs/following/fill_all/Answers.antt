use Rattle.std.proofs.Common.{◌∙◌, ◌++◌, ◌∷◌, [], ◌+◌, append_assoc, append-nil, map, drop, sym, ap}
use Rattle.std.proofs.lemmas.List.{drop_all, map-append}
use Rattle.json.specs.Value.{value_view}
use Rattle.bidi_rows.specs.declared.template.Template.{Template}
use Rattle.bidi_rows.specs.Filling.{filling_of, filled_text, template_of}
use Rattle.bidi_remote.specs.Machine.Sent.{Text}
use Rattle.bidi_sessions.specs.View.{sent_of}
use Rattle.bidi_sessions.proofs.ListLemmas.{from-item}
use Rattle.bidi_scripted.proofs.following.fill_all.Goals as goal

pub loop-event-preserved : goal.loop-event-preserved
loop-event-preserved c =
    let all = c.args.events.now in
    let i = c.loop-event.event-index in
    let x = c.event-item.result in
    let n = c.args.conn.value in
    let filling = filling_of (value_view c.args.params.now) in
    let sent = map sent_of c.loop-event.sent.items in
    let rest = map (λ (e : Template). Text n (filled_text filling (template_of e))) (drop (i + 1) all) in
    c.loop-event.invariant
    ∙ (ap (λ es. sent ++ map (λ (e : Template). Text n (filled_text filling (template_of e))) es) (from-item all i x c.loop-event-test.true c.event-item.is)
    ∙ (sym (append_assoc sent (Text n (filled_text filling (template_of x)) ∷ []) rest)
    ∙ ap (λ zs. zs ++ rest)
    (sym (ap (map sent_of) c.in_ok-push.ensures.items
    ∙ (map-append sent_of c.loop-event.sent.items _
    ∙ ap (λ t. sent ++ Text n t ∷ []) (c.in_ok-text.ensures ∙ ap (λ g. filled_text g (template_of x)) c.filling_of-filling.ensures))))))

pub returns : goal.returns
returns c =
    let n = c.args.conn.value in
    let filling = filling_of (value_view c.args.params.now) in
    let sent = map sent_of c.loop-event.sent.items in
    sym (c.loop-event.invariant
    ∙ (ap (λ left. sent ++ map (λ (e : Template). Text n (filled_text filling (template_of e))) left)
    (drop_all c.loop-event.event-index c.args.events.now c.loop-event-test.false)
    ∙ append-nil sent))
