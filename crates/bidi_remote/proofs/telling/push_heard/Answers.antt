use Rattle.std.proofs.Common.{◌∙◌, ◌++◌, ◌+◌, append-nil, map, drop, sym, ap, arith}
use Rattle.std.specs.Prelude.{flat_map, filter, string_bytes}
use Rattle.std.proofs.lemmas.List.{drop_all}
use Rattle.bidi_remote.specs.Machine.Sent.{Text}
use Rattle.bidi_sessions.specs.ConnectionRows.{rows_in, to_each}
use Rattle.bidi_sessions.specs.SubscriptionRows.{any_covers}
use Rattle.bidi_active.specs.SessionView.{session_row_of}
use Rattle.bidi_sessions.specs.View.{sent_of}
use Rattle.bidi_sessions.proofs.ListLemmas.{from-item}
use Rattle.bidi_remote.proofs.TellLemmas.{heard-next, heard-other}
use Rattle.bidi_remote.proofs.telling.push_heard.Goals.{then-hears+in_ok-push_text, else-hears}
use Rattle.bidi_remote.proofs.telling.push_heard.Goals as goal

pub loop-session-preserved : goal.loop-session-preserved
loop-session-preserved c =
    let i = c.loop-session.session-index in
    let all = c.args.sessions.now in
    let x = c.session-item.result in
    let e = c.args.event in
    let top = c.args.top in
    let rows = rows_in c.args.connections.now in
    let text = string_bytes c.args.text.now.value in
    let sent = map sent_of c.loop-session.sent.items in
    let rest = flat_map (λ r. to_each (λ n. Text n text) r.number rows)
    (filter (λ r. any_covers r.subscriptions e top) (map session_row_of (drop (i + 1) all))) in
    let is = from-item all i x (omega arith) c.session-item.is in
    c.loop-session.invariant
    ∙ (ap (λ left. sent ++ flat_map (λ r. to_each (λ n. Text n text) r.number rows) (filter (λ r. any_covers r.subscriptions e top) (map session_row_of left)))
    is
    ∙ elim c.if-hears.branch [
      | then-hears+in_ok-push_text w ↦
          heard-next rows text e top (session_row_of x) (map session_row_of (drop (i + 1) all)) sent (sym c.hears.ensures ∙ w.if-hears.true)
          ∙ (ap (λ zs. zs ++ rest) (sym w.in_ok-push_text.ensures) ∙ ap (λ v. map sent_of v.items ++ rest) (sym w.sent-is))
      | else-hears w ↦
          ap (λ later. sent ++ later) (heard-other rows text e top (session_row_of x) (map session_row_of (drop (i + 1) all))
          (sym c.hears.ensures ∙ w.if-hears.false))
          ∙ ap (λ v. map sent_of v.items ++ rest) (sym w.sent-is)
    ])

pub returns : goal.returns
returns c =
    sym (c.loop-session.invariant
    ∙ (ap (λ left. map sent_of c.loop-session.sent.items ++ flat_map (λ r. to_each (λ n. Text n (string_bytes c.args.text.now.value)) r.number (rows_in c.args.connections.now))
    (filter (λ r. any_covers r.subscriptions c.args.event c.args.top) (map session_row_of left)))
    (drop_all c.loop-session.session-index c.args.sessions.now c.loop-session-test.false)
    ∙ append-nil (map sent_of c.loop-session.sent.items)))
