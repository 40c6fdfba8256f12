use Rattle.std.proofs.Common.{◌∙◌, Ok, Err, refl, codes, subst}
use Rattle.bidi_scripts.specs.declared.log_entry.Level.TheVariants.{Info}
use Rattle.bidi_contexts.specs.Actions.{Log}
use Rattle.bidi_contexts.specs.Occurrences.{entry_added}
use Rattle.bidi_contexts.specs.View.{seen}
use Rattle.bidi_browser.specs.Plans.{Plans}
use Rattle.bidi_remote.specs.Machine.History.{acts, moment}
use Rattle.bidi_remote.specs.Machine.Outcome.{deeds}
use Rattle.bidi_remote.proofs.AskingLemmas.{entry-top, entry-nowhere}
use Rattle.bidi_remote.proofs.BrowseLemmas.{entry-planned}
use Rattle.bidi_remote.proofs.SpeakingLemmas.{has-ids}
use Rattle.bidi_remote.proofs.state.State.top_at.Goals as goal

pub returns-in-Ok : goal.returns-in-Ok
returns-in-Ok c = λ h short a.
    let past = deeds h in
    let id = c.args.context.now in
    let plan = c.in-Ok.plan in
    let plans = subst (λ n. Plans (Ok plan) (acts past) n (Log id Info (codes ""))) a.moment (c.in-Ok.ensures.plans (acts past) a.browser (has-ids h short)) in
    let p = entry-planned past id Info (codes "") plan plans in
    c.first_top.ensures
    ∙ entry-top (acts past) id p.0 Info (codes "") (seen plan.before.items) (entry_added (acts past) (moment past) p.0 Info (codes "")) p.1 p.2 refl

pub returns-in-Err-Code : goal.returns-in-Err-Code
returns-in-Err-Code c = λ h short a.
    let past = deeds h in
    let id = c.args.context.now in
    entry-nowhere (acts past) id c.in-Err-Code.field-0-0 Info (codes "")
    (subst (λ r. Plans (Err r) (acts past) c.args.self.now.moment.value (Log id Info (codes ""))) c.in-Err-Code.field-0-is
    (c.in-Err-Code.ensures.plans (acts past) a.browser (has-ids h short)))
