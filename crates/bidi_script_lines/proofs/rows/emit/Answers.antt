use Rattle.std.proofs.Common.{◌≡◌, inl, refl, ap}
use Rattle.bidi_rows.specs.Rows.{Event}
use Rattle.bidi_rows.specs.Reading.{IsEventText}
use Rattle.bidi_remote.specs.Machine.Outcome.{deeds}
use Rattle.bidi_scripted.specs.Faults.{RefusesEvent}
use Rattle.bidi_scripted.specs.Sending.{emitted}
use Rattle.bidi_scripted.specs.View.{script_of}
use Rattle.bidi_script_lines.specs.Outcomes.{OfTest}
use Rattle.bidi_script_lines.specs.Performing.{IsUnchanged}
use Rattle.bidi_script_lines.proofs.PerformLemmas.{no-effect, no-event}
use Rattle.bidi_script_lines.proofs.rows.emit.Goals as goal

pub returns-in-Ok-clause-brings : goal.returns-in-Ok-clause-brings
returns-in-Ok-clause-brings c = λ h s.
    let sends = c.in-Ok.ensures.ok h s in
    inl (sends.0, sends.1, ap OfTest sends.2, (refl, refl))

pub returns-in-Err-clause-brings : goal.returns-in-Err-clause-brings
returns-in-Err-clause-brings c = λ h s.
    let end = c.args.end.now in
    no-effect (λ o. (e : Event) × IsEventText c.args.event.now e × (o ≡ OfTest (emitted (deeds h) (script_of end.script).named e)) × IsUnchanged end end) _
    (RefusesEvent c.args.event.now) c.in-Err.fault end end c.refused.result c.refused.ensures.ok c.refused.ensures.has_reason c.in-Err.ensures.why
    (no-event c.args.event.now) (refl, refl)
