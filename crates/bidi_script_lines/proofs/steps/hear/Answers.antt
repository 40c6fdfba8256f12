use Rattle.bidi_sessions.specs.Step.{Text}
use Rattle.bidi_scripted.proofs.FateLemmas.{err-beside}
use Rattle.bidi_script_lines.proofs.StepLemmas.{refuses-step, takes-step}
use Rattle.bidi_script_lines.proofs.steps.hear.Goals as goal

pub returns-in-Ok-clause-plain : goal.returns-in-Ok-clause-plain
returns-in-Ok-clause-plain c = λ empty.
    let call = c.in-Ok.ensures in
    (takes-step (Text c.args.conn.value c.args.text.now) _ _ _ _ (call.plain empty) c.of_taken.ensures, call.stays empty)

pub returns-in-Ok-clause-brings : goal.returns-in-Ok-clause-brings
returns-in-Ok-clause-brings c = λ h s. (c.in-Ok.taken, c.in-Ok.ensures.becomes h s, c.of_taken.ensures)

pub returns-in-Err-clause-plain : goal.returns-in-Err-clause-plain
returns-in-Err-clause-plain c = λ empty.
    (refuses-step (Text c.args.conn.value c.args.text.now) _ _ _ (c.in-Err.ensures.plain empty), c.in-Err.ensures.stays empty)

pub returns-in-Err-clause-worn_out : goal.returns-in-Err-clause-worn_out
returns-in-Err-clause-worn_out c = λ h s is. c.in-Err.ensures.worn_out h s (err-beside _ _ is)
