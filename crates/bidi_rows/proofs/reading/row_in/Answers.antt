use Rattle.std.proofs.Common.{inl, inr, subst, sym}
use Rattle.std.specs.Prelude.{option_map}
use Rattle.bidi_rows.specs.Part.{part_of}
use Rattle.bidi_rows.specs.Reading.{HasPart}
use Rattle.bidi_rows.specs.Refusals.{RefusesPart, RefusesTimes}
use Rattle.bidi_rows.proofs.RefusalLemmas.{handed_on, is-there}
use Rattle.bidi_rows.proofs.reading.row_in.Goals as goal

pub returns-in_err-part-clause-why : goal.returns-in_err-part-clause-why
returns-in_err-part-clause-why c =
    handed_on {P = RefusesPart _} _ _ c.from_residual-in_err-part.ensures.1 c.in_err-part.ensures.why (λ f x.
    inr (is-there (sym c.in-Some.ensures), inl (subst (λ o. RefusesPart o f) c.get.ensures x)))

pub returns-in_err-left-clause-why : goal.returns-in_err-left-clause-why
returns-in_err-left-clause-why c =
    let part = option_map part_of c.in_ok-part.part in
    handed_on {P = RefusesTimes _} _ _ c.from_residual-in_err-left.ensures.1 c.in_err-left.ensures.why (λ f x.
    inr (
      is-there (sym c.in-Some.ensures),
      inr (
        (part, subst (λ o. HasPart o part) c.get.ensures c.in_ok-part.ensures.ok),
        subst (λ o. RefusesTimes o f) c.get-2.ensures x,
      ),
    ))
