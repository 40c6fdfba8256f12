use Rattle.std.proofs.Common.{◌∙◌, ℕ, List, Result, Ok, sym, ap}
use Rattle.bidi_params.specs.declared.error_code.ErrorCode.{ErrorCode}
use Rattle.bidi_handles.specs.Checks.{◌>>=◌}
use Rattle.bidi_remote.specs.Machine.History.{Deed, Cancelled}
use Rattle.bidi_remote.specs.State.Asked.{texts}
use Rattle.bidi_sessions.specs.SubscriptionRows.{numbers_named}
use Rattle.bidi_sessions.proofs.CheckLemmas.{carried}
use Rattle.bidi_remote.proofs.DecideLemmas.{row-active, numbers-named}
use Rattle.bidi_remote.proofs.session.unsubscribe.end_by_ids.Goals as goal

-- what the ids name
abbrev then_cancelled : ℕ → Result (List ℕ) ErrorCode → Result Deed ErrorCode
then_cancelled s named = named >>= λ ns. Ok (Cancelled s ns)

pub returns-in_err-numbers-clause-checked : goal.returns-in_err-numbers-clause-checked
returns-in_err-numbers-clause-checked c = λ past a active.
    let s = c.args.session in
    let rows = c.subscriptions_of-held.ensures ∙ ap (λ r. r.subscriptions) (row-active c.args.state.now past s a active) in
    carried c.numbers_of.result c.from_residual.result c.in_err-numbers.field-0.0 _ _ _ _ c.numbers_of.ensures c.in_err-numbers.was c.from_residual.ensures.1
    (λ code failed. ap (then_cancelled s)
    (sym (numbers-named past s (texts c.args.ids.now)) ∙ (ap (λ all. numbers_named s all (texts c.args.ids.now)) (sym rows) ∙ failed)))

pub returns-clause-checked : goal.returns-clause-checked
returns-clause-checked c = λ past a active.
    let s = c.args.session in
    let rows = c.subscriptions_of-held.ensures ∙ ap (λ r. r.subscriptions) (row-active c.args.state.now past s a active) in
    ap (then_cancelled s) (sym (numbers-named past s (texts c.args.ids.now))
    ∙ (ap (λ all. numbers_named s all (texts c.args.ids.now)) (sym rows) ∙ c.in_ok-numbers.ensures))
