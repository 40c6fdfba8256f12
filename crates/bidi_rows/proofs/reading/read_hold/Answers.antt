use Rattle.std.proofs.Common.{◌∙◌, inl, inr, refl, sym}
use Rattle.json.specs.Value.{value_view}
use Rattle.bidi_rows.specs.Reading.{hold_names}
use Rattle.bidi_rows.specs.Refusals.{RefusesFor, RefusesNames}
use Rattle.bidi_rows.proofs.RefusalLemmas.{handed_on, kept_on, no-value, none-then, no-hold-text, hold-text}
use Rattle.bidi_rows.specs.declared.fault.RowFault.TheVariants.{Unexpected}
use Rattle.bidi_rows.proofs.reading.read_hold.Goals as goal

pub returns-in_err-value-clause-why : goal.returns-in_err-value-clause-why
returns-in_err-value-clause-why c = handed_on _ _ c.from_residual.ensures.1 c.in_err-value.ensures.why (no-value (RefusesNames hold_names RefusesFor) c.args.text.now)

pub returns-in_err-value-clause-refused : goal.returns-in_err-value-clause-refused
returns-in_err-value-clause-refused c = none-then _ (returns-in_err-value-clause-why c) (no-hold-text c.args.text.now)

pub returns-then-not-has_only-clause-why : goal.returns-then-not-has_only-clause-why
returns-then-not-has_only-clause-why c = hold-text c.args.text.now (value_view c.in_ok-value.value) c.in_ok-value.ensures.ok Unexpected (inl (refl, sym c.has_only.ensures ∙ c.if-not-has_only.true))

pub returns-then-not-has_only-clause-refused : goal.returns-then-not-has_only-clause-refused
returns-then-not-has_only-clause-refused c = no-hold-text c.args.text.now Unexpected (returns-then-not-has_only-clause-why c)

pub returns-clause-why : goal.returns-clause-why
returns-clause-why c = kept_on _ c.row_in.ensures.why (λ f x. hold-text c.args.text.now (value_view c.in_ok-value.value) c.in_ok-value.ensures.ok f (inr (sym c.has_only.ensures ∙ c.if-not-has_only.false, x)))

pub returns-clause-refused : goal.returns-clause-refused
returns-clause-refused c = none-then _ (returns-clause-why c) (no-hold-text c.args.text.now)
