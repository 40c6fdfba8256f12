use Rattle.std.proofs.Common.{Ok, Err, refl, ap, subst}
use Rattle.bidi_browser.specs.Asked.{action_of}
use Rattle.bidi_browser.specs.Plans.{Plans}
use Rattle.bidi_sessions.specs.declared.step.Sent.TheVariants as sent
use Rattle.bidi_remote.specs.Machine.History.{OfPage, acts}
use Rattle.bidi_remote.specs.Machine.Outcome.{NoEffect, deeds, in_page}
use Rattle.bidi_remote.proofs.BrowseLemmas.{page_takes}
use Rattle.bidi_remote.proofs.SpeakingLemmas.{has-ids}
use Rattle.bidi_remote.proofs.TakeLemmas.{only_takes}
use Rattle.bidi_remote.proofs.state.State.browse.Goals as goal

pub returns-in-Ok-clause-ok : goal.returns-in-Ok-clause-ok
returns-in-Ok-clause-ok c = λ h short a unasked quiet.
    let past = deeds h in
    page_takes c.take_turn.result c.take_turn.new.self h c.planned.result c.in-Ok.plan (action_of c.args.action) unasked quiet
    (subst (λ n. Plans (Ok c.in-Ok.plan) (acts past) n (action_of c.args.action)) a.moment (c.in-Ok.ensures.plans (acts past) a.browser (has-ids h short)))
    c.planned.ensures.change c.planned.ensures.announced c.planned.ensures.before c.planned.ensures.reply c.planned.ensures.after
    (λ i act is made messages. c.take_turn.ensures.ok h i act short a is made messages)

pub returns-in-Err-Code-clause-ok : goal.returns-in-Err-Code-clause-ok
returns-in-Err-Code-clause-ok c = λ h short a unasked quiet.
    only_takes c.only.result sent.NoEffect c.args.self.now h (OfPage (action_of c.args.action)) (Err NoEffect) c.only.ensures
    (ap in_page (subst (λ r. Plans (Err r) (acts (deeds h)) c.args.self.now.moment.value (action_of c.args.action)) c.in-Err-Code.field-0-is
    (c.in-Err-Code.ensures.plans (acts (deeds h)) a.browser (has-ids h short))))
    refl tt a
