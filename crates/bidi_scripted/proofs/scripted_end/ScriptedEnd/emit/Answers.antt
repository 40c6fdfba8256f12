use Rattle.std.proofs.Common.{◌∙◌, ◌++◌, map, ap₂}
use Rattle.bidi_rows.specs.View.{event_of}
use Rattle.bidi_remote.specs.Machine.Outcome.{deeds}
use Rattle.bidi_sessions.specs.View.{sent_of}
use Rattle.bidi_scripted.specs.Sending.{emitted}
use Rattle.bidi_names.specs.Subscriptions.{named_of}
use Rattle.bidi_scripted.proofs.FaultLemmas.{refused, unread-lives, remote-refused}
use Rattle.bidi_scripted.proofs.scripted_end.ScriptedEnd.emit.Goals as goal

pub returns-clause-ok : goal.returns-clause-ok
returns-clause-ok c = λ h s.
    let event = event_of c.in_ok-event.event in (
      event,
      c.in_ok-event.ensures.ok,
      c.in_ok-push_event.ensures.sends h s
          ∙ ap₂ (λ before ns. map sent_of before ++ emitted (deeds h) (map named_of ns) event) c.new-sent.ensures.items c.deref.ensures.value,
    )

pub returns-in_err-event-clause-why : goal.returns-in_err-event-clause-why
returns-in_err-event-clause-why c = refused _ _ c.from_residual.result c.from_residual.ensures.1 c.in_err-event.ensures.why tt (λ f why. why)

pub returns-in_err-event-clause-worn_out : goal.returns-in_err-event-clause-worn_out
returns-in_err-event-clause-worn_out c = λ h s is. absurd (unread-lives _ _ c.from_residual.ensures.1 is)

pub returns-in_err-push_event-clause-why : goal.returns-in_err-push_event-clause-why
returns-in_err-push_event-clause-why c = remote-refused _ _ c.from_residual-in_err-push_event.result c.from_residual-in_err-push_event.ensures.1 tt
    (event_of c.in_ok-event.event, c.in_ok-event.ensures.ok)
