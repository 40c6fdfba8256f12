use Rattle.std.proofs.Common.{sym, ap, subst}
use Rattle.bidi_params.specs.contracts.session.capabilities.NewParametersShape.TheImpl.{ghosts}
use Rattle.bidi_methods.specs.CommandData.{method_of}
use Rattle.bidi_remote.specs.Machine.Connections.{Alone}
use Rattle.bidi_remote.specs.Machine.Outcome.{deeds, outcome}
use Rattle.bidi_remote.specs.State.Asked.{asked_of}
use Rattle.bidi_remote.specs.State.Turns.{Decides}
use Rattle.bidi_remote.proofs.ReplyLemmas.{asked-of}
use Rattle.bidi_remote.proofs.deciding.decide_alone.Goals as goal

pub returns-in-Session-clause-ok : goal.returns-in-Session-clause-ok
returns-in-Session-clause-ok c = λ h short a.
    subst (λ asked. Decides c.decide_session_alone.result (deeds h) c.args.asker asked (outcome (deeds h) c.args.asker.conn.value Alone asked))
    (sym (ap (asked_of ghosts.shape) c.in-Session.is)) (c.decide_session_alone.ensures.ok h short a)

pub returns-in-Session-clause-of_method : goal.returns-in-Session-clause-of_method
returns-in-Session-clause-of_method c =
    asked-of method_of c.args.asked.now _ c.decide_session_alone.result c.in-Session.is c.decide_session_alone.ensures.of_method
