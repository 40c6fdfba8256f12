use Rattle.json.specs.Value.{value_view}
use Rattle.bidi_rows.specs.Refusals.{RefusesEvent}
use Rattle.bidi_rows.proofs.RefusalLemmas.{handed_on, kept_on, no-value, none-then, no-event-text, event-text}
use Rattle.bidi_rows.proofs.reading.read_event.Goals as goal

pub returns-in_err-value-clause-why : goal.returns-in_err-value-clause-why
returns-in_err-value-clause-why c = handed_on _ _ c.from_residual.ensures.1 c.in_err-value.ensures.why (no-value RefusesEvent c.args.text.now)

pub returns-in_err-value-clause-refused : goal.returns-in_err-value-clause-refused
returns-in_err-value-clause-refused c = none-then _ (returns-in_err-value-clause-why c) (no-event-text c.args.text.now)

pub returns-clause-why : goal.returns-clause-why
returns-clause-why c = kept_on _ c.event_in.ensures.why (event-text c.args.text.now (value_view c.in_ok-value.value) c.in_ok-value.ensures.ok)

pub returns-clause-refused : goal.returns-clause-refused
returns-clause-refused c = none-then _ (returns-clause-why c) (no-event-text c.args.text.now)
