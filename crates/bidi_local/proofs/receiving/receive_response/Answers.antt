use Rattle.std.proofs.Common.{◌∙◌, sym}
use Rattle.bidi_local.proofs.MeaningLemmas.{response_stray, response_means, outcome_settles, outcome_method}
use Rattle.bidi_local.specs.View.{meaning_of}
use Rattle.bidi_local.proofs.receiving.receive_response.Goals as goal

pub returns-in_ok-outcome-in-Some-clause-means : goal.returns-in_ok-outcome-in-Some-clause-means
returns-in_ok-outcome-in-Some-clause-means c =
    let outcome = c.in_ok-outcome-in-Some in
    response_means c.args.pending.now.entries c.args.response c.in-Some.method (meaning_of outcome.outcome) c.requires
    (sym c.method_of.ensures ∙ c.in-Some.is) outcome.ensures.outcome

pub returns-in_ok-outcome-in-Some-clause-method : goal.returns-in_ok-outcome-in-Some-clause-method
returns-in_ok-outcome-in-Some-clause-method c =
    outcome_method c.args.pending.now.entries c.in-Some.method (sym c.method_of.ensures ∙ c.in-Some.is) c.in_ok-outcome-in-Some.ensures.outcome

pub returns-in_ok-outcome-in-Some-clause-settles : goal.returns-in_ok-outcome-in-Some-clause-settles
returns-in_ok-outcome-in-Some-clause-settles c = c.settle.ensures ∙ sym (outcome_settles c.args.pending.now.entries c.in_ok-outcome-in-Some.ensures.outcome)

pub returns-in-None-clause-means : goal.returns-in-None-clause-means
returns-in-None-clause-means c = response_stray c.args.pending.now.entries c.args.response c.requires (sym c.method_of.ensures ∙ c.in-None.is)
