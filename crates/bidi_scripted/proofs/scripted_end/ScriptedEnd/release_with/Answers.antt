use Rattle.std.proofs.Common.{sym}
use Rattle.bidi_rows.specs.View.{answer_of}
use Rattle.bidi_rows.proofs.RefusalLemmas.{is-there}
use Rattle.bidi_scripted.proofs.FaultLemmas.{refused, unread-lives, remote-refused}
use Rattle.bidi_scripted.proofs.scripted_end.ScriptedEnd.release_with.Goals as goal

pub returns-in_err-answer-clause-why : goal.returns-in_err-answer-clause-why
returns-in_err-answer-clause-why c = refused _ _ c.from_residual.result c.from_residual.ensures.1 c.in_err-answer.ensures.why tt (λ f why. (is-there (sym c.in-Some.ensures), why))

pub returns-in_err-answer-clause-worn_out : goal.returns-in_err-answer-clause-worn_out
returns-in_err-answer-clause-worn_out c = λ h s is. absurd (unread-lives _ _ c.from_residual.ensures.1 is)

pub returns-in_err-sent-clause-why : goal.returns-in_err-sent-clause-why
returns-in_err-sent-clause-why c = remote-refused _ _ c.from_residual-in_err-sent.result c.from_residual-in_err-sent.ensures.1 tt
    (is-there (sym c.in-Some.ensures), (answer_of c.in_ok-answer.answer, c.in_ok-answer.ensures.ok))
