use Rattle.std.proofs.Common.{ap, ◌∷◌, [], refl, arith}
use Rattle.bidi_methods.specs.declared.result_data.ResultData.TheVariants.{BrowsingContextActivate}
use Rattle.bidi_contexts.specs.Actions.{Activate}
use Rattle.bidi_browser.specs.Occurs.{Replies}
use Rattle.bidi_contexts.specs.Outcome.{looked}
use Rattle.bidi_browser.proofs.PlanLemmas.{looked-plans, told-well, result-well}
use Rattle.bidi_browser.proofs.looking.plan_activate.Goals as goal

pub returns-clause-plans : goal.returns-clause-plans
returns-clause-plans c = λ past moment stands.
    let found = c.in_ok-top_named.ensures past stands.contexts in
    looked-plans c.looked.result past moment (Activate c.args.context.now) (BrowsingContextActivate c.nothing.result) refl
    (ap looked found.1) (ap (λ t. Replies t ∷ []) c.nothing.ensures.tree)
    c.looked.ensures.before c.looked.ensures.outcome c.looked.ensures.after c.looked.ensures.change

pub returns-clause-well : goal.returns-clause-well
returns-clause-well c =
    told-well c.looked.result (BrowsingContextActivate c.nothing.result) c.looked.ensures.before c.looked.ensures.outcome c.looked.ensures.after
    (result-well (BrowsingContextActivate c.nothing.result) _ c.nothing.ensures.well c.nothing.ensures.tree (omega arith))
