use Rattle.std.proofs.Common.{◌≡◌, ◌∙◌, Some, sym, ap, subst}
use Rattle.bidi_methods.specs.CommandData.{browser_asked}
use Rattle.bidi_contexts.specs.Actions.{method_of}
use Rattle.bidi_browser.specs.Asked.{action_of}
use Rattle.bidi_browser.specs.Plans.{HasResultOf}
use Rattle.bidi_browser.proofs.AskedLemmas.{command-method}
use Rattle.bidi_browser.proofs.browser.Browser.plan.Goals as goal

pub returns-in-Asked-clause-of_method : goal.returns-in-Asked-clause-of_method
returns-in-Asked-clause-of_method c = λ method is.
    let command = c.in-Asked.command.now in
    let named : Some (browser_asked command).0 ≡ Some method = sym (command-method command) ∙ (sym (ap (λ a. method_of (action_of a)) c.in-Asked.is) ∙ is) in
    let same : (browser_asked command).0 ≡ method = cc in
    subst (λ m. HasResultOf m c.plan_command.result) same c.plan_command.ensures.of_method
