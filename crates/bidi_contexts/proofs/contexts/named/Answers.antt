use Rattle.std.proofs.Common.{◌≡◌, ◌∙◌, None, option_map, rules, sym, ap}
use Rattle.bidi_handles.proofs.NumberedLemmas.{named-by}
use Rattle.bidi_contexts.specs.declared.context.Context.{Context}
use Rattle.bidi_contexts.proofs.RowLemmas.{one-read}
use Rattle.bidi_contexts.proofs.contexts.named.Goals as goal

pub returns-in_err-number-clause-found : goal.returns-in_err-number-clause-found
returns-in_err-number-clause-found c =
    let none : c.from_residual.result ≡ None = search rules in
    ap (option_map (λ x. x.now)) none
    ∙ sym (named-by (λ (x : Context). x.number) _ None (λ x. x.number_fits) c.in_err-number.ensures.some c.in_err-number.ensures.every
    c.args.contexts.now)

pub returns-in_err-number-clause-one : goal.returns-in_err-number-clause-one
returns-in_err-number-clause-one c = λ n m few less is too. one-read _ n m (c.in_err-number.ensures.every n few is) (c.in_err-number.ensures.every m less too)

pub returns-clause-found : goal.returns-clause-found
returns-clause-found c =
    c.numbered.ensures
    ∙ c.skip_others.ensures.found
    ∙ sym (named-by (λ (x : Context). x.number) _ _ (λ x. x.number_fits) c.in_ok-number.ensures.some c.in_ok-number.ensures.every
    c.args.contexts.now)

pub returns-clause-one : goal.returns-clause-one
returns-clause-one c = λ n m few less is too. one-read _ n m (c.in_ok-number.ensures.every n few is) (c.in_ok-number.ensures.every m less too)
