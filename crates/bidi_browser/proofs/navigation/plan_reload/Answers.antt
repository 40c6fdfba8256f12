use Rattle.std.proofs.Common.{◌≡◌, ◌∙◌, refl, sym, ap, ap₂}
use Rattle.bidi_tree.specs.Node.{text, no_members}
use Rattle.bidi_methods.specs.declared.result_data.ResultData.TheVariants.{BrowsingContextReload}
use Rattle.bidi_handles.specs.declared.id.IdKind.TheVariants.{Navigation}
use Rattle.bidi_contexts.specs.Acts.{Again}
use Rattle.bidi_browser.specs.Asked.{reload_asked}
use Rattle.bidi_handles.specs.Maps.{◌being◌and◌, mapped, id_tree}
use Rattle.bidi_browser.specs.Occurs.{led_to}
use Rattle.bidi_contexts.specs.Outcome.{context_named}
use Rattle.bidi_contexts.specs.Places.{present}
use Rattle.bidi_contexts.specs.Urls.{url_text}
use Rattle.bidi_browser.proofs.NavigationLemmas.{navigation-plans}
use Rattle.bidi_browser.proofs.navigation.plan_reload.Goals as goal

pub returns-clause-plans : goal.returns-clause-plans
returns-clause-plans c = λ past stands ids.
    let found = c.in_ok-context.ensures past stands.contexts in
    let k = found.0 in
    let url = c.present-url.result.now in
    let next = c.in_ok-numbers.ensures.next past stands in
    let leads : led_to past k Again ≡ url = sym (c.present-url.ensures ∙ ap present (c.history.ensures ∙ ap (λ r. r.entries) found.2)) in
    let told = c.in_ok-told.ensures.told past k Again stands next found.2 leads in
    navigation-plans c.planned.result c.in_ok-told.told _ (BrowsingContextReload c.in_ok-result.result) past c.args.moment.value k Again
    (reload_asked c.args.params.now) refl
    (rw (ap (context_named past) (sym c.deref.ensures) ∙ found.1) refl) told
    (c.in_ok-result.ensures.tree
    ∙ ap₂ (λ n u. mapped ("navigation" being id_tree Navigation n and "url" being text (url_text u) and no_members)) next.navigation (sym leads))
    (c.number.ensures.number ∙ ap (λ r. r.number) found.2) refl next.realm tt c.planned.ensures.before c.planned.ensures.outcome c.planned.ensures.after c.planned.ensures.change
