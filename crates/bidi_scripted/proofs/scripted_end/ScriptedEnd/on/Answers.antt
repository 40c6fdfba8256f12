use Rattle.bidi_scripted.proofs.FaultLemmas.{refused, unread-lives}
use Rattle.bidi_scripted.proofs.scripted_end.ScriptedEnd.on.Goals as goal

pub returns-in_err-events-clause-why : goal.returns-in_err-events-clause-why
returns-in_err-events-clause-why c = refused _ _ c.from_residual.result c.from_residual.ensures.1 c.in_err-events.ensures.why tt (λ f why. why)

pub returns-in_err-events-clause-worn_out : goal.returns-in_err-events-clause-worn_out
returns-in_err-events-clause-worn_out c = λ is. unread-lives _ _ c.from_residual.ensures.1 is
