use Rattle.std.proofs.Common.{Err, subst}
use Rattle.bidi_browser.specs.Asked.{action_of}
use Rattle.bidi_browser.specs.Plans.{Plans}
use Rattle.bidi_remote.specs.Machine.History.{acts}
use Rattle.bidi_remote.specs.Machine.Outcome.{deeds}
use Rattle.bidi_remote.proofs.RefusalLemmas.{planned_none, refused_code}
use Rattle.bidi_remote.proofs.SpeakingLemmas.{has-ids}
use Rattle.bidi_remote.proofs.state.State.refusal_of.Goals as goal

pub returns-in-Ok : goal.returns-in-Ok
returns-in-Ok c = λ h short a.
    planned_none c.in-Ok.plan (acts (deeds h)) c.args.self.now.moment.value (action_of c.args.action)
    (c.in-Ok.ensures.plans (acts (deeds h)) a.browser (has-ids h short))

pub returns-in-Err-Code : goal.returns-in-Err-Code
returns-in-Err-Code c = λ h short a.
    let action = action_of c.args.action in
    refused_code c.in-Err-Code.code (acts (deeds h)) c.args.self.now.moment.value action
    (subst (λ r. Plans (Err r) (acts (deeds h)) c.args.self.now.moment.value action) c.in-Err-Code.field-0-is
    (c.in-Err-Code.ensures.plans (acts (deeds h)) a.browser (has-ids h short)))
