use Rattle.std.proofs.Common.{◌≡◌, ◌∙◌, Some, refl, sym, ap}
use Rattle.bidi_methods.specs.declared.result_data.ResultData.TheVariants.{BrowsingContextTraverseHistory}
use Rattle.bidi_contexts.specs.Acts.{Across}
use Rattle.bidi_browser.specs.Asked.{traverse_asked}
use Rattle.bidi_browser.specs.Occurs.{led_to}
use Rattle.bidi_contexts.specs.Outcome.{top_named}
use Rattle.bidi_contexts.specs.Places.{entries_of, moved, place_across, present}
use Rattle.bidi_browser.proofs.NavigationLemmas.{across-leads, navigation-plans}
use Rattle.bidi_browser.proofs.navigation.plan_traverse_history.Goals as goal

pub returns-clause-plans : goal.returns-clause-plans
returns-clause-plans c = λ past stands ids.
    let found = c.in_ok-context.ensures past stands.contexts in
    let k = found.0 in
    let delta = c.args.params.now.delta.value in
    let place = c.in-Some.place in
    let url = c.in-Some.url.now in
    let next = c.in_ok-numbers.ensures.next past stands in
    let entries = c.history.ensures ∙ ap (λ r. r.entries) found.2 in
    let at : place_across (entries_of past k) delta ≡ Some place = ap (λ e. place_across e delta) (sym entries) ∙ c.in-Some.ensures.0 in
    let leads : led_to past k (Across place) ≡ url = sym (c.in-Some.ensures.1 ∙ ap (λ e. present (moved e (Across place))) entries) in
    let told = c.in_ok-told.ensures.told past k (Across place) stands next found.2 leads in
    navigation-plans c.planned.result c.in_ok-told.told _ (BrowsingContextTraverseHistory c.nothing-result.result) past c.args.moment.value k
    (Across place) (traverse_asked c.args.params.now) refl
    (rw (ap (top_named past) (sym c.deref.ensures) ∙ found.1, at) refl) told c.nothing-result.ensures.tree
    (c.number.ensures.number ∙ ap (λ r. r.number) found.2) refl next.realm (across-leads (entries_of past k) delta place at) c.planned.ensures.before
    c.planned.ensures.outcome c.planned.ensures.after c.planned.ensures.change
