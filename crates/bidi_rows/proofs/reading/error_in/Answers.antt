use Rattle.std.proofs.Common.{◌∙◌, sym, subst₂}
use Rattle.json.specs.Value.{value_view}
use Rattle.bidi_rows.specs.Rows.{Error}
use Rattle.bidi_rows.specs.Reading.{HasReply, has_error, has_message}
use Rattle.bidi_rows.proofs.RefusalLemmas.{not-there}
use Rattle.bidi_rows.proofs.reading.error_in.Goals as goal

pub returns-then-not-has-clause-ok : goal.returns-then-not-has-clause-ok
returns-then-not-has-clause-ok c =
    let j = value_view c.args.value.now in
    subst₂ (λ a b. HasReply j (Error a b)) (sym c.in_ok-quoted.ensures) (sym c.in_ok-quoted-2.ensures)
    (has_error c.in-Some.code.now c.requires (sym c.in-Some.ensures) (not-there _ (sym c.has.ensures ∙ c.if-not-has.true)))

pub returns-clause-ok : goal.returns-clause-ok
returns-clause-ok c =
    let j = value_view c.args.value.now in
    subst₂ (λ a b. HasReply j (Error a b)) (sym c.in_ok-quoted-3.ensures) (sym c.in_ok-quoted-4.ensures)
    (has_message c.in-Some.code.now c.in-Some-string_at.message.now c.requires (sym c.in-Some.ensures) (sym c.in-Some-string_at.ensures))
