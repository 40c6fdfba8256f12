use Rattle.std.proofs.Common.{◌∙◌, sym, ap, arith}
use Rattle.bidi_params.specs.contracts.session.capabilities.NewParametersShape.TheImpl.{ghosts}
use Rattle.bidi_methods.specs.CommandData.{session_asked}
use Rattle.bidi_remote.specs.Machine.Outcome.{deeds}
use Rattle.bidi_remote.specs.State.Asked.{session_asked_of, subscribe_asked}
use Rattle.bidi_remote.proofs.SpeakingLemmas.{speaks-active, few-subscriptions}
use Rattle.bidi_remote.proofs.ReplyLemmas.{asked-of, decides-as}
use Rattle.bidi_remote.proofs.deciding.decide_session_in.Goals as goal

pub returns-in-Subscribe-clause-ok : goal.returns-in-Subscribe-clause-ok
returns-in-Subscribe-clause-ok c = λ h short a speaks.
    let few = few-subscriptions h c.args.session in
    decides-as c.decide_subscribe.result (deeds h) c.args.asker c.args.asker.conn.value c.args.session _ _
    (ap (session_asked_of ghosts.shape) c.in-Subscribe.is ∙ ap subscribe_asked (sym c.as_ref.ensures))
    (c.decide_subscribe.ensures.ok (deeds h) a (speaks-active h c.args.asker.conn.value c.args.session speaks) (omega (arith, few, short)))

pub returns-in-Unsubscribe-clause-ok : goal.returns-in-Unsubscribe-clause-ok
returns-in-Unsubscribe-clause-ok c = λ h short a speaks.
    decides-as c.decide_unsubscribe.result (deeds h) c.args.asker c.args.asker.conn.value c.args.session _ _
    (ap (session_asked_of ghosts.shape) c.in-Unsubscribe.is)
    (c.decide_unsubscribe.ensures.ok (deeds h) a (speaks-active h c.args.asker.conn.value c.args.session speaks))

pub returns-in-Status-clause-of_method : goal.returns-in-Status-clause-of_method
returns-in-Status-clause-of_method c =
    asked-of (λ d. (session_asked d).0) c.args.command.now _ c.decide_status.result c.in-Status.is c.decide_status.ensures.of_method

pub returns-in-End-clause-of_method : goal.returns-in-End-clause-of_method
returns-in-End-clause-of_method c =
    asked-of (λ d. (session_asked d).0) c.args.command.now _ c.decide_end.result c.in-End.is c.decide_end.ensures.of_method

pub returns-in-Subscribe-clause-of_method : goal.returns-in-Subscribe-clause-of_method
returns-in-Subscribe-clause-of_method c =
    asked-of (λ d. (session_asked d).0) c.args.command.now _ c.decide_subscribe.result c.in-Subscribe.is c.decide_subscribe.ensures.of_method

pub returns-in-Unsubscribe-clause-of_method : goal.returns-in-Unsubscribe-clause-of_method
returns-in-Unsubscribe-clause-of_method c =
    asked-of (λ d. (session_asked d).0) c.args.command.now _ c.decide_unsubscribe.result c.in-Unsubscribe.is c.decide_unsubscribe.ensures.of_method
