use Rattle.std.proofs.Common.{◌≡◌, ◌∙◌, ◌++◌, append-nil, map, sym, ap, subst}
use Rattle.std.specs.Prelude.{IfOk, string_bytes}
use Rattle.std.specs.List.{list_any}
use Rattle.bidi_methods.specs.contracts.event_data.EventDataPayloadEventName.TheImpl.{ghosts}
use Rattle.bidi_messages.specs.contracts.message.MessageShape.TheImpl as message
use Rattle.bidi_messages.specs.Message.{event_text}
use Rattle.bidi_messages.specs.Reading.{IsMessageText}
use Rattle.bidi_sessions.specs.ConnectionRows.{rows_in}
use Rattle.bidi_sessions.specs.SubscriptionRows.{any_covers}
use Rattle.bidi_active.specs.SessionView.{session_row_of}
use Rattle.bidi_sessions.specs.View.{sent_of}
use Rattle.bidi_remote.proofs.TellLemmas.{heard, heard-none, heard-read, if-more-read}
use Rattle.bidi_remote.proofs.telling.push_event.Goals as goal

pub returns-then-not-is_heard-clause-sent : goal.returns-then-not-is_heard-clause-sent
returns-then-not-is_heard-clause-sent c =
    let all = c.args.sessions.now in
    let top = c.args.occurrence.now.top in
    let e = ghosts.payload.kind c.args.occurrence.now.event in
    let none = ap (λ f. list_any (λ s. any_covers (session_row_of s).subscriptions f top) all) (sym c.kind-event.ensures)
    ∙ (sym c.is_heard.ensures ∙ c.if-not-is_heard.true) in
    sym (ap (λ xs. map sent_of c.args.sent.now.items ++ xs) (heard-none (rows_in c.args.connections.now) _ e top session_row_of all none)
    ∙ append-nil (map sent_of c.args.sent.now.items))

pub returns-clause-sent : goal.returns-clause-sent
returns-clause-sent c =
    let all = map session_row_of c.args.sessions.now in
    let rows = rows_in c.args.connections.now in
    let top = c.args.occurrence.now.top in
    subst (λ xs. IfOk c.push_heard.result (λ done. map sent_of c.push_heard.new.sent.items ≡ xs))
    (ap (λ text. map sent_of c.args.sent.now.items ++ heard rows text c.kind-event.result top all) (ap string_bytes c.in_ok-text.ensures.ok ∙ c.in_ok-event_text.ensures.text)
    ∙ ap (λ e. map sent_of c.args.sent.now.items ++ heard rows (event_text (ghosts.payload.kind c.args.occurrence.now.event)
    (ghosts.payload.tree_of c.args.occurrence.now.event)) e top all) c.kind-event.ensures) c.push_heard.ensures

pub returns-clause-reads_back : goal.returns-clause-reads_back
returns-clause-reads_back c =
    if-more-read c.push_heard.result _ _ _ c.push_heard.ensures
    (heard-read (rows_in c.args.connections.now) _ (subst (λ t. IsMessageText message.ghosts.shape (string_bytes t)) (sym c.in_ok-text.ensures.ok) c.in_ok-event_text.ensures.reads_back)
    c.kind-event.result c.args.occurrence.now.top (map session_row_of c.args.sessions.now))
