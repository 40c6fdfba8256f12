use Rattle.std.proofs.Common.{◌∙◌, ◌∷◌, [], refl, ap, arith}
use Rattle.bidi_methods.specs.declared.result_data.ResultData.TheVariants.{BrowserCreateUserContext}
use Rattle.bidi_browser.specs.declared.plan.Edit.TheVariants.{AddUser}
use Rattle.bidi_browser.specs.declared.command_result.CommandResult.TheVariants.{Data}
use Rattle.bidi_contexts.specs.Actions.{CreateUserContext}
use Rattle.bidi_contexts.specs.Acts.{UserMade}
use Rattle.bidi_browser.specs.Occurs.{Replies}
use Rattle.bidi_contexts.specs.Users.{user_info}
use Rattle.bidi_browser.proofs.CallLemmas.{answered-plans}
use Rattle.bidi_browser.proofs.PlanLemmas.{told-well, result-well}
use Rattle.bidi_browser.proofs.births.plan_create_user.Goals as goal

pub returns-clause-plans : goal.returns-clause-plans
returns-clause-plans c = λ past moment stands ids.
    let next = c.in_ok-number.ensures.next past stands.users ids in
    answered-plans c.answered.result past moment CreateUserContext UserMade (Data (BrowserCreateUserContext c.in_ok-user_info.field-0)) AddUser refl (rw next.0 refl)
    (ap (λ t. Replies t ∷ []) (c.in_ok-user_info.ensures.tree ∙ ap user_info next.1))
    c.answered.ensures.before c.answered.ensures.outcome c.answered.ensures.after c.answered.ensures.change refl

pub returns-clause-well : goal.returns-clause-well
returns-clause-well c =
    told-well c.answered.result (BrowserCreateUserContext c.in_ok-user_info.field-0) c.answered.ensures.before c.answered.ensures.outcome c.answered.ensures.after
    (result-well (BrowserCreateUserContext c.in_ok-user_info.field-0) _ c.in_ok-user_info.ensures.well c.in_ok-user_info.ensures.tree (omega arith))
