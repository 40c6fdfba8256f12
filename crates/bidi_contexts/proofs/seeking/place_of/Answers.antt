use Rattle.std.proofs.Common.{◌∙◌, ◌+◌, ◌-◌, ap, arith, length, sym}
use Rattle.std.specs.Prelude.{◌==◌, option_map}
use Rattle.bidi_contexts.specs.declared.context.Context.{Context}
use Rattle.bidi_contexts.proofs.RowLemmas.{position-behind}
use Rattle.bidi_contexts.proofs.seeking.place_of.Goals as goal

pub returns-in_err-place : goal.returns-in_err-place
returns-in_err-place c =
    let contexts = c.args.contexts.now in
    let left = c.skip_others-left.result.now in
    let passed = length contexts - length left in
    c.from_residual.ensures
    ∙ sym (position-behind (λ (x : Context). x.number == c.args.number) contexts left passed (omega (arith, c.skip_others-left.ensures.within)) c.skip_others-left.ensures.place
    ∙ ap (option_map (λ i. passed + i)) (sym c.in_err-place.ensures))

pub returns : goal.returns
returns c =
    let contexts = c.args.contexts.now in
    let left = c.skip_others-left.result.now in
    let passed = length contexts - length left in
    sym (position-behind (λ (x : Context). x.number == c.args.number) contexts left passed (omega (arith, c.skip_others-left.ensures.within)) c.skip_others-left.ensures.place
    ∙ ap (option_map (λ i. passed + i)) (sym c.in_ok-place.ensures))
