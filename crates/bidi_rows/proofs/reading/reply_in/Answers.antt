use Rattle.std.proofs.Common.{◌∙◌, sym, subst}
use Rattle.json.specs.Value.{value_view}
use Rattle.bidi_rows.specs.Rows.{Result}
use Rattle.bidi_rows.specs.Reading.{HasReply, has_result}
use Rattle.bidi_rows.proofs.RefusalLemmas.{both-none}
use Rattle.bidi_rows.proofs.reading.reply_in.Goals as goal

pub returns-then-not-has_error-clause-ok : goal.returns-then-not-has_error-clause-ok
returns-then-not-has_error-clause-ok c =
    let none = both-none _ _ (sym c.has_error.ensures ∙ c.if-not-has_error.true) in
    subst (λ a. HasReply (value_view c.args.value.now) (Result a)) (sym c.in_ok-compact.ensures)
    (has_result (value_view c.in-Some.found.now) (sym c.in-Some.ensures) none.0 none.1)
