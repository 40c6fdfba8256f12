use Rattle.std.proofs.Common.{ap}
use Rattle.bidi_params.specs.contracts.session.capabilities.NewParametersShape.TheImpl.{ghosts}
use Rattle.bidi_methods.specs.CommandData.{method_of}
use Rattle.bidi_remote.specs.Machine.Outcome.{deeds}
use Rattle.bidi_remote.specs.State.Asked.{asked_of}
use Rattle.bidi_remote.proofs.SpeakingLemmas.{has-ids}
use Rattle.bidi_remote.proofs.ReplyLemmas.{asked-of, decides-as}
use Rattle.bidi_remote.proofs.deciding.decide_in.Goals as goal

pub returns-in-Session-clause-ok : goal.returns-in-Session-clause-ok
returns-in-Session-clause-ok c = λ h short a speaks.
    decides-as c.decide_session_in.result (deeds h) c.args.asker c.args.asker.conn.value c.args.session _ _
    (ap (asked_of ghosts.shape) c.in-Session.is) (c.decide_session_in.ensures.ok h short a speaks)

pub returns-in-Browser-clause-ok : goal.returns-in-Browser-clause-ok
returns-in-Browser-clause-ok c = λ h short a speaks.
    decides-as c.decide_browser_in.result (deeds h) c.args.asker c.args.asker.conn.value c.args.session _ _
    (ap (asked_of ghosts.shape) c.in-Browser.is) (c.decide_browser_in.ensures.ok (deeds h) a (has-ids h short))

pub returns-in-Session-clause-of_method : goal.returns-in-Session-clause-of_method
returns-in-Session-clause-of_method c =
    asked-of method_of c.args.asked.now _ c.decide_session_in.result c.in-Session.is c.decide_session_in.ensures.of_method

pub returns-in-Browser-clause-of_method : goal.returns-in-Browser-clause-of_method
returns-in-Browser-clause-of_method c =
    asked-of method_of c.args.asked.now _ c.decide_browser_in.result c.in-Browser.is c.decide_browser_in.ensures.of_method
