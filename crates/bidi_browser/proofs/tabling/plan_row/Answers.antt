use Rattle.std.proofs.Common.{ap}
use Rattle.std.specs.Prelude.{option_map}
use Rattle.bidi_browser.specs.TableInHand.{row_tree}
use Rattle.bidi_browser.proofs.PlanLemmas.{tabled-plans}
use Rattle.bidi_browser.proofs.tabling.plan_row.Goals as goal

pub returns-clause-plans : goal.returns-clause-plans
returns-clause-plans c = λ past moment stands.
    tabled-plans c.tabled.result past moment _ (row_tree c.in-Some.row) (ap (option_map row_tree) c.in-Some.is)
    (c.in_ok-check_row.ensures.checked past stands) c.tabled.ensures.told (c.tabled.ensures.change past) c.tabled.ensures.err
