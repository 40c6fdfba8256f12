use Rattle.std.proofs.Common.{Ok, Err, refl, ap, subst}
use Rattle.bidi_contexts.specs.Actions.{Log}
use Rattle.bidi_browser.specs.Plans.{Plans}
use Rattle.bidi_sessions.specs.declared.step.Sent.TheVariants as sent
use Rattle.bidi_remote.specs.Machine.History.{OfPage, acts}
use Rattle.bidi_remote.specs.Machine.Outcome.{NoEffect, deeds, in_page}
use Rattle.bidi_remote.proofs.SpeakingLemmas.{has-ids}
use Rattle.bidi_remote.proofs.TakeLemmas.{only_takes}
use Rattle.bidi_remote.proofs.state.State.log.Goals as goal

pub returns-in-Ok-clause-ok : goal.returns-in-Ok-clause-ok
returns-in-Ok-clause-ok c = λ h short a.
    let action = Log c.args.context.now c.args.level c.args.text.now in
    c.take_entry.ensures.ok h c.args.context.now c.args.text.now c.args.level short a
    (subst (λ n. Plans (Ok c.in-Ok.plan) (acts (deeds h)) n action) a.moment (c.in-Ok.ensures.plans (acts (deeds h)) a.browser (has-ids h short)))

pub returns-in-Err-Code-clause-ok : goal.returns-in-Err-Code-clause-ok
returns-in-Err-Code-clause-ok c = λ h short a.
    let action = Log c.args.context.now c.args.level c.args.text.now in
    only_takes c.only.result sent.NoEffect c.args.self.now h (OfPage action) (Err NoEffect) c.only.ensures
    (ap in_page (subst (λ r. Plans (Err r) (acts (deeds h)) c.args.self.now.moment.value action) c.in-Err-Code.field-0-is
    (c.in-Err-Code.ensures.plans (acts (deeds h)) a.browser (has-ids h short))))
    refl tt a
