use Rattle.std.proofs.Common.{refl, sym, ap₂, subst}
use Rattle.bidi_tree.specs.Json.{parsed}
use Rattle.bidi_shape.specs.Outcome.{known_misfit}
use Rattle.bidi_messages.specs.Verdict as judged
use Rattle.bidi_messages.specs.contracts.command.CommandShape.TheImpl.{ghosts}
use Rattle.bidi_messages.proofs.VerdictLemmas.{accepted, accepted_as, refused_as}
use Rattle.bidi_messages.proofs.judging.verdict_on.Goals as goal

pub returns-in-Ok-clause-verdict : goal.returns-in-Ok-clause-verdict
returns-in-Ok-clause-verdict c = λ s seen.
    let read = c.in-Ok.ensures.ok in accepted ghosts.shape refl s seen c.in-Ok.command read.0 read.1

pub returns-in-Ok-clause-again : goal.returns-in-Ok-clause-again
returns-in-Ok-clause-again c = λ s other seen.
    let read = c.in-Ok.ensures.ok in accepted_as ghosts.shape refl s seen c.in-Ok.command read.0 read.1 other

pub returns-in-Err-NoFit-clause-verdict : goal.returns-in-Err-NoFit-clause-verdict
returns-in-Err-NoFit-clause-verdict c = λ s seen.
    subst (λ v. judged.IsVerdict s v) (ap₂ judged.Refused (sym c.echoed_id.ensures) (sym c.refusal_code.ensures))
    (judged.is_no_command (parsed c.args.tree.now) seen (known_misfit c.in-Err-NoFit.field-0 c.in-Err-NoFit.field-0-is c.in-Err-NoFit.ensures.no_fit))

pub returns-in-Err-NoFit-clause-again : goal.returns-in-Err-NoFit-clause-again
returns-in-Err-NoFit-clause-again c = λ s other seen.
    refused_as ghosts.shape refl s seen (known_misfit c.in-Err-NoFit.field-0 c.in-Err-NoFit.field-0-is c.in-Err-NoFit.ensures.no_fit) other
