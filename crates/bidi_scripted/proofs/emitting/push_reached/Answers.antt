use Rattle.std.proofs.Common.{◌∙◌, ◌++◌, ◌+◌, get_or, map, drop, sym, ap, ap₂}
use Rattle.std.specs.Prelude.{flat_map, filter}
use Rattle.bidi_rows.specs.View.{event_of}
use Rattle.bidi_remote.specs.Machine.Connections.{connections_of}
use Rattle.bidi_remote.specs.Machine.Outcome.{deeds}
use Rattle.bidi_remote.specs.Machine.Sent.{Text}
use Rattle.bidi_sessions.specs.View.{sent_of}
use Rattle.bidi_sessions.proofs.ListLemmas.{from-item}
use Rattle.bidi_names.specs.Subscriptions.{named_of}
use Rattle.bidi_names.specs.Names.{event_named}
use Rattle.bidi_scripted.specs.Sending.{reaches}
use Rattle.bidi_scripted.proofs.SendLemmas.{reached-next, reached-other}
use Rattle.bidi_scripted.proofs.UseLemmas.{get_or-any}
use Rattle.bidi_scripted.proofs.emitting.push_reached.Goals.{then-reaches+in_ok-push_text, else-reaches}
use Rattle.bidi_scripted.proofs.emitting.push_reached.Goals as goal

pub loop-session-preserved : goal.loop-session-preserved
loop-session-preserved c = λ h s.
    let i = c.loop-session.session-index in
    let all = c.args.sessions.now in
    let x = get_or all i 0 in
    let e = event_of c.args.event.now in
    let past = deeds h in
    let named = map named_of c.args.named.now in
    let top = c.args.top in
    let sent = map sent_of c.loop-session.sent.items in
    let rest = flat_map (λ n. map (λ k. Text k e.text) (connections_of past n)) (filter (reaches past named e.method (event_named e.method) top) (drop (i + 1) all)) in
    let is = from-item all i x c.loop-session-test.true (get_or-any all i 0 x c.loop-session-test.true) in
    let reach = c.reaches.ensures h s
    ∙ ap₂ (λ m n. reaches past named m n top x) c.as_str-in-loop-session.ensures.value (c.named-name.ensures ∙ ap event_named c.as_str.ensures.value) in
    c.loop-session.invariant h s
    ∙ (ap (λ left. sent ++ flat_map (λ n. map (λ k. Text k e.text) (connections_of past n)) (filter (reaches past named e.method (event_named e.method) top) left)) is
    ∙ elim c.if-reaches.branch [
      | then-reaches+in_ok-push_text w ↦
          reached-next (λ n. map (λ k. Text k e.text) (connections_of past n)) (reaches past named e.method (event_named e.method) top) x (drop (i + 1) all) sent
          (sym reach ∙ w.if-reaches.true)
          ∙ (ap (λ zs. zs ++ rest)
          (sym (w.in_ok-push_text.ensures h s))
          ∙ ap (λ v. map sent_of v.items ++ rest) (sym w.sent-is))
      | else-reaches w ↦
          ap (λ later. sent ++ later)
          (reached-other (λ n. map (λ k. Text k e.text) (connections_of past n)) (reaches past named e.method (event_named e.method) top) x (drop (i + 1) all)
          (sym reach ∙ w.if-reaches.false))
          ∙ ap (λ v. map sent_of v.items ++ rest) (sym w.sent-is)
    ])
