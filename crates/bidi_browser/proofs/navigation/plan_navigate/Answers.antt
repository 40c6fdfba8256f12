use Rattle.std.proofs.Common.{◌≡◌, ◌∙◌, refl, sym, ap, ap₂}
use Rattle.bidi_tree.specs.Node.{text, no_members}
use Rattle.bidi_methods.specs.declared.result_data.ResultData.TheVariants.{BrowsingContextNavigate}
use Rattle.bidi_handles.specs.declared.id.IdKind.TheVariants.{Navigation}
use Rattle.bidi_contexts.specs.Acts.{To}
use Rattle.bidi_browser.specs.Asked.{navigate_asked}
use Rattle.bidi_contexts.specs.ContextRows.{row_of}
use Rattle.bidi_handles.specs.Maps.{◌being◌and◌, mapped, id_tree}
use Rattle.bidi_browser.specs.Occurs.{led_to}
use Rattle.bidi_contexts.specs.Outcome.{context_named}
use Rattle.bidi_contexts.specs.Places.{present, with_entry}
use Rattle.bidi_contexts.specs.Urls.{parsed, url_text}
use Rattle.bidi_contexts.proofs.HistoryLemmas.{entries-fit}
use Rattle.bidi_browser.proofs.NavigationLemmas.{new-entry-present, navigation-plans}
use Rattle.bidi_browser.proofs.navigation.plan_navigate.Goals as goal

pub returns-clause-plans : goal.returns-clause-plans
returns-clause-plans c = λ past stands ids.
    let found = c.in_ok-context.ensures past stands.contexts in
    let k = found.0 in
    let url = c.in_ok-url.url in
    let context = c.in_ok-context.context.now in
    let next = c.in_ok-numbers.ensures.next past stands in
    let fit = entries-fit context in
    let leads : led_to past k (To url) ≡ url =
    ap (λ r. present (with_entry r.entries url)) (sym found.2)
    ∙ new-entry-present (row_of context).entries url fit.0 fit.1 in
    let told = c.in_ok-told.ensures.told past k (To url) stands next found.2 leads in
    navigation-plans c.planned.result c.in_ok-told.told _ (BrowsingContextNavigate c.in_ok-result.result) past c.args.moment.value k
    (To url) (navigate_asked c.args.params.now) refl
    (rw (ap (context_named past) (sym c.deref.ensures) ∙ found.1, ap parsed (sym c.deref-2.ensures) ∙ c.in_ok-url.ensures) refl) told
    (c.in_ok-result.ensures.tree
    ∙ ap₂ (λ n u. mapped ("navigation" being id_tree Navigation n and "url" being text (url_text u) and no_members)) next.navigation (sym leads))
    (c.number.ensures.number ∙ ap (λ r. r.number) found.2) refl next.realm tt c.planned.ensures.before c.planned.ensures.outcome c.planned.ensures.after c.planned.ensures.change
