use Rattle.std.proofs.Common.{codes, inl, inr, subst}
use Rattle.json.specs.Value.{value_view}
use Rattle.bidi_rows.specs.Reading.{HasEvents}
use Rattle.bidi_rows.specs.Refusals.{RefusesEvents}
use Rattle.bidi_rows.specs.View.{events_of, reply_of}
use Rattle.bidi_rows.proofs.NumberLemmas.{property_numbers}
use Rattle.bidi_rows.proofs.RefusalLemmas.{handed_on}
use Rattle.bidi_rows.proofs.reading.answer_in.Goals as goal

pub events_in-requires : goal.events_in-requires
events_in-requires c = property_numbers _ c.get.result (codes "before") (value_view c.args.value.now) c.get.ensures c.requires

pub events_in-requires-2 : goal.events_in-requires-2
events_in-requires-2 c = property_numbers _ c.get-2.result (codes "after") (value_view c.args.value.now) c.get-2.ensures c.requires

pub returns-clause-ok : goal.returns-clause-ok
returns-clause-ok c = record {
  before = subst (λ o. HasEvents o (events_of c.in_ok-before.before.items)) c.get.ensures c.in_ok-before.ensures.ok;
  reply = c.in_ok-reply.ensures.ok;
  after = subst (λ o. HasEvents o (events_of c.in_ok-after.after.items)) c.get-2.ensures c.in_ok-after.ensures.ok;
}

pub returns-in_err-reply-clause-why : goal.returns-in_err-reply-clause-why
returns-in_err-reply-clause-why c = handed_on _ _ c.from_residual.ensures.1 c.in_err-reply.ensures.why (λ f x. inl x)

pub returns-in_err-before-clause-why : goal.returns-in_err-before-clause-why
returns-in_err-before-clause-why c =
    handed_on _ _ c.from_residual-in_err-before.ensures.1 c.in_err-before.ensures.why (λ f x.
    inr ((reply_of c.in_ok-reply.reply, c.in_ok-reply.ensures.ok), inl (subst (λ o. RefusesEvents o f) c.get.ensures x)))

pub returns-in_err-after-clause-why : goal.returns-in_err-after-clause-why
returns-in_err-after-clause-why c =
    let es = events_of c.in_ok-before.before.items in
    handed_on _ _ c.from_residual-in_err-after.ensures.1 c.in_err-after.ensures.why (λ f x.
    inr (
      (reply_of c.in_ok-reply.reply, c.in_ok-reply.ensures.ok),
      inr (
        (es, subst (λ o. HasEvents o es) c.get.ensures c.in_ok-before.ensures.ok),
        subst (λ o. RefusesEvents o f) c.get-2.ensures x,
      ),
    ))
