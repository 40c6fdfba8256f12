use Rattle.bidi_messages.specs.contracts.command.CommandShape.TheImpl.{ghosts}
use Rattle.bidi_messages.specs.View.{verdict_of}
use Rattle.bidi_remote.proofs.TakeLemmas.{text_judged}
use Rattle.std.proofs.Common.{sym, subst}
use Rattle.std.specs.Prelude.{OnOk}
use Rattle.bidi_remote.specs.Machine.History.{Heard}
use Rattle.bidi_remote.specs.Machine.Outcome.{deeds}
use Rattle.bidi_remote.specs.Replies.{IsAnsweredOnce}
use Rattle.bidi_remote.proofs.state.State.hear.Goals as goal

pub returns-clause-ok : goal.returns-clause-ok
returns-clause-ok c =
    text_judged c.settle.result c.args.text.now c.args.self.now c.settle.new.self c.args.conn.value
    (verdict_of ghosts.shape c.in_ok-verdict.verdict) c.in_ok-verdict.ensures.verdict c.settle.ensures.ok

pub returns-clause-answered : goal.returns-clause-answered
returns-clause-answered c = λ h v short a judged.
    subst (λ w. OnOk c.settle.result (IsAnsweredOnce (deeds h) (Heard c.args.conn.value w))) (sym (c.in_ok-verdict.ensures.no_other v judged))
    (c.settle.ensures.answered h short a)
