use Rattle.std.proofs.Common.{◌∙◌, sym, ap, subst, arith}
use Rattle.bidi_params.specs.contracts.session.capabilities.NewParametersShape.TheImpl.{ghosts}
use Rattle.bidi_methods.specs.CommandData.{session_asked}
use Rattle.bidi_sessions.specs.Capabilities.{request_of}
use Rattle.bidi_remote.specs.Machine.Commands.{New}
use Rattle.bidi_remote.specs.Machine.Connections.{Alone}
use Rattle.bidi_remote.specs.Machine.Outcome.{deeds, outcome}
use Rattle.bidi_remote.specs.State.Asked.{session_asked_of}
use Rattle.bidi_remote.specs.State.Turns.{Decides}
use Rattle.bidi_remote.proofs.SpeakingLemmas.{few-sessions}
use Rattle.bidi_remote.proofs.ReplyLemmas.{asked-of}
use Rattle.bidi_remote.proofs.deciding.decide_session_alone.Goals as goal

pub returns-in-New-clause-ok : goal.returns-in-New-clause-ok
returns-in-New-clause-ok c = λ h short a.
    let few = few-sessions h in
    subst (λ asked. Decides c.decide_new.result (deeds h) c.args.asker asked (outcome (deeds h) c.args.asker.conn.value Alone asked))
    (sym (ap (session_asked_of ghosts.shape) c.in-New.is ∙ ap (λ p. New (request_of (ghosts.shape.tree_of p))) (sym c.as_ref.ensures)))
    (c.decide_new.ensures.ok (deeds h) a (omega (arith, few, short)))

pub returns-in-Status-clause-of_method : goal.returns-in-Status-clause-of_method
returns-in-Status-clause-of_method c =
    asked-of (λ d. (session_asked d).0) c.args.command.now _ c.decide_status.result c.in-Status.is c.decide_status.ensures.of_method

pub returns-in-New-clause-of_method : goal.returns-in-New-clause-of_method
returns-in-New-clause-of_method c =
    asked-of (λ d. (session_asked d).0) c.args.command.now _ c.decide_new.result c.in-New.is c.decide_new.ensures.of_method
