use Rattle.bidi_browser.proofs.PlanLemmas.{logged-plans}
use Rattle.bidi_browser.proofs.logging.plan_log.Goals as goal

pub returns-clause-plans : goal.returns-clause-plans
returns-clause-plans c = λ past stands.
    let found = c.in_ok-context.ensures past stands.contexts in
    logged-plans past c.args.moment.value found.0 _ _ _ _ _ _ found.1 found.2 c.in_ok-before.ensures.told c.new.ensures.items
