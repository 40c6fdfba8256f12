use Rattle.bidi_local.proofs.OutcomeLemmas.{bad_result_told, refusal_told}
use Rattle.bidi_local.proofs.received.Taken.in_short.Goals as goal

pub returns-in-BadResult : goal.returns-in-BadResult
returns-in-BadResult c waiting =
    bad_result_told waiting c.in-BadResult.id c.bad_result.result c.args.self.now.received c.args.self.now.method c.in-BadResult.is c.bad_result.ensures

pub returns-in-Refusal : goal.returns-in-Refusal
returns-in-Refusal c waiting =
    refusal_told waiting c.in-Refusal.id c.refusal.result c.in-Refusal.code c.args.self.now.received c.args.self.now.method c.in-Refusal.is c.refusal.ensures
