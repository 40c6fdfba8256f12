use Rattle.std.proofs.Common.{Ok, subst}
use Rattle.bidi_methods.specs.CommandData.{browser_asked}
use Rattle.bidi_browser.specs.Asked.{command_asked}
use Rattle.bidi_browser.specs.Plans.{Plans}
use Rattle.bidi_browser.proofs.AskedLemmas.{command-method, command-is_asked}
use Rattle.bidi_remote.specs.Machine.History.{acts}
use Rattle.bidi_remote.proofs.BrowseLemmas.{planned-decides}
use Rattle.bidi_remote.proofs.ReplyLemmas.{planned-of}
use Rattle.bidi_remote.proofs.deciding.decide_browser_in.Goals as goal

pub returns-clause-ok : goal.returns-clause-ok
returns-clause-ok c = λ past a ids.
    let command = c.args.command.now in
    planned-decides c.planned.result c.in_ok-plan.plan past (command_asked command) c.args.asker (command-is_asked command)
    (subst (λ n. Plans (Ok c.in_ok-plan.plan) (acts past) n (command_asked command)) a.moment (c.in_ok-plan.ensures.plans (acts past) a.browser ids))
    c.planned.ensures.change c.planned.ensures.announced c.planned.ensures.before c.planned.ensures.reply c.planned.ensures.after

pub returns-clause-of_method : goal.returns-clause-of_method
returns-clause-of_method c =
    let command = c.args.command.now in
    planned-of (browser_asked command).0 c.planned.result c.args.asker c.in_ok-plan.plan.result c.planned.ensures.reply
    (c.in_ok-plan.ensures.of_method (browser_asked command).0 (command-method command))
