use Rattle.json.specs.Value.{value_view}
use Rattle.bidi_rows.specs.Refusals.{RefusesArray}
use Rattle.bidi_rows.proofs.RefusalLemmas.{handed_on, kept_on, no-value, none-then, no-template-text, array-text}
use Rattle.std.specs.Prelude.{map}
use Rattle.bidi_rows.specs.Filling.{template_of}
use Rattle.bidi_rows.proofs.ReadingLemmas.{templates_read}
use Rattle.bidi_rows.proofs.reading.read_templates.Goals as goal

pub returns-in_err-value-clause-why : goal.returns-in_err-value-clause-why
returns-in_err-value-clause-why c = handed_on _ _ c.from_residual.ensures.1 c.in_err-value.ensures.why (no-value RefusesArray c.args.text.now)

pub returns-in_err-value-clause-refused : goal.returns-in_err-value-clause-refused
returns-in_err-value-clause-refused c = none-then _ (returns-in_err-value-clause-why c) (no-template-text c.args.text.now)

pub returns-clause-ok : goal.returns-clause-ok
returns-clause-ok c = templates_read c.templates_in.result (λ ts. map template_of ts.items) c.args.text.now (value_view c.in_ok-value.value) c.in_ok-value.ensures.ok c.templates_in.ensures.ok

pub returns-clause-why : goal.returns-clause-why
returns-clause-why c = kept_on _ c.templates_in.ensures.why (array-text c.args.text.now (value_view c.in_ok-value.value) c.in_ok-value.ensures.ok)

pub returns-clause-refused : goal.returns-clause-refused
returns-clause-refused c = none-then _ (returns-clause-why c) (no-template-text c.args.text.now)
