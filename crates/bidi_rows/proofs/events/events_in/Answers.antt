use Rattle.std.proofs.Common.{subst, sym}
use Rattle.std.specs.Prelude.{option_map}
use Rattle.json.specs.Value.{value_view}
use Rattle.bidi_rows.specs.Refusals.{IfFails, RefusesEvents}
use Rattle.bidi_rows.proofs.events.events_in.Goals as goal

pub returns-in-Some-clause-why : goal.returns-in-Some-clause-why
returns-in-Some-clause-why c =
    subst (λ o. IfFails c.listed_events.result (RefusesEvents (option_map (λ v. value_view v.now) o))) (sym c.in-Some.is) c.listed_events.ensures.why
