use Rattle.std.proofs.Common.{◌∙◌, ◌++◌, ◌∷◌, map, ap, ap₂}
use Rattle.bidi_rows.specs.View.{events_of, reply_of}
use Rattle.bidi_rows.specs.Rows.{reply_text}
use Rattle.bidi_remote.specs.Machine.Outcome.{deeds}
use Rattle.bidi_remote.specs.Machine.Sent.{Text}
use Rattle.bidi_sessions.specs.View.{sent_of}
use Rattle.bidi_names.specs.Subscriptions.{named_of}
use Rattle.bidi_scripted.specs.Sending.{all_emitted}
use Rattle.bidi_scripted.proofs.SendLemmas.{in_order}
use Rattle.bidi_scripted.proofs.emitting.answer_sent.Goals as goal

pub returns-clause-sends : goal.returns-clause-sends
returns-clause-sends c = λ h s.
    in_order _ _ _ _ _ _ _ _ (ap (map sent_of) c.new-sent.ensures.items) (c.in_ok-push_events.ensures.sends h s) c.in_ok-push_text.ensures
    (ap (Text c.args.conn.value) c.in_ok-reply.ensures) (c.in_ok-push_events-2.ensures.sends h s)
    ∙ ap₂ (λ before after. all_emitted (deeds h) (map named_of c.args.named.now) (events_of before)
    ++ Text c.args.conn.value (reply_text c.args.id.value (reply_of c.args.answer.now.reply)) ∷ all_emitted (deeds h) (map named_of c.args.named.now) (events_of after))
    c.deref.ensures.value c.deref-2.ensures.value
