use Rattle.std.proofs.Common.{◌∙◌, ◌∷◌, [], ap, sym, subst}
use Rattle.bidi_methods.specs.contracts.event_data.EventDataPayloadEventName.TheImpl.{ghosts}
use Rattle.bidi_methods.specs.declared.event_data.EventName.TheVariants.{NavigationStarted, DomContentLoaded, Load}
use Rattle.bidi_contexts.specs.ContextRows.{row_of, realm_destroyed_in}
use Rattle.bidi_browser.specs.Occurs.{led_to}
use Rattle.bidi_contexts.specs.View.{AreWell}
use Rattle.bidi_contexts.specs.View.{seen}
use Rattle.bidi_contexts.proofs.PushLemmas.{AllByRecursion-more}
use Rattle.bidi_browser.proofs.NavigationLemmas.{all-told, event-told, realm-told, one-told}
use Rattle.bidi_browser.proofs.navigation.events.Goals as goal

pub returns-clause-told : goal.returns-clause-told
returns-clause-told c = λ past k move stands next is leads.
    let moment = c.args.moment.value in
    let number = c.args.numbers.navigation in
    let row = row_of c.args.context.now in
    let url = c.args.url.now in
    let to = led_to past k move in
    let gone = c.in_ok-push_removals_below.ensures.told past k stands.contexts is in
    let first = event-told past moment k number url to NavigationStarted row _ _ is next.navigation leads
    c.navigation_started.ensures.told (c.in_ok-again.ensures.tree ∙ c.in_ok-info.ensures.tree) in
    let ended = c.in_ok-realm_destroyed.ensures.told ∙ ap realm_destroyed_in is in
    let begun = realm-told past k c.args.numbers.realm move url row _ is next.realm leads c.in_ok-realm_began.ensures.told in
    let there = event-told past moment k number url to DomContentLoaded row _ _ is next.navigation leads c.dom_content_loaded.ensures.told
    (c.in_ok-again-2.ensures.tree ∙ c.in_ok-info.ensures.tree) in
    let loaded = event-told past moment k number url to Load row _ _ is next.navigation leads c.loaded.ensures.told c.in_ok-info.ensures.tree in
    all-told past moment k move (seen c.in_ok-all.all.items) (seen c.push.new.self.items) (seen c.push_removals_below.new.events.items)
    (seen c.push-2.new.self.items) (seen c.push-3.new.self.items) (seen c.push-4.new.self.items)
    (seen c.push-5.new.self.items) (ap seen c.in_ok-all.ensures.items)
    (one-told c.in_ok-all.all.items c.push.new.self.items _ _ c.in_ok-push.ensures.items (ap (λ o. o ∷ []) first))
    gone
    (one-told c.push_removals_below.new.events.items c.push-2.new.self.items _ _ c.in_ok-push-2.ensures.items (ap (λ o. o ∷ []) ended))
    (one-told c.push-2.new.self.items c.push-3.new.self.items _ _ c.in_ok-push-3.ensures.items (ap (λ o. o ∷ []) begun))
    (one-told c.push-3.new.self.items c.push-4.new.self.items _ _ c.in_ok-push-4.ensures.items (ap (λ o. o ∷ []) there))
    (one-told c.push-4.new.self.items c.push-5.new.self.items _ _ c.in_ok-push-5.ensures.items (ap (λ o. o ∷ []) loaded))

pub returns-clause-well : goal.returns-clause-well
returns-clause-well c =
    let more = AllByRecursion-more (λ o. ghosts.payload.well o.event) in
    let none = subst AreWell (sym c.in_ok-all.ensures.items) tt in
    let first = more _ _ _ c.in_ok-push.ensures.items none (c.navigation_started.ensures.well (c.in_ok-again.ensures.well c.in_ok-info.ensures.well)) in
    let gone = c.in_ok-push_removals_below.ensures.well first in
    let ended = more _ _ _ c.in_ok-push-2.ensures.items gone c.in_ok-realm_destroyed.ensures.well in
    let begun = more _ _ _ c.in_ok-push-3.ensures.items ended c.in_ok-realm_began.ensures.well in
    let there = more _ _ _ c.in_ok-push-4.ensures.items begun (c.dom_content_loaded.ensures.well (c.in_ok-again-2.ensures.well c.in_ok-info.ensures.well)) in
    more _ _ _ c.in_ok-push-5.ensures.items there (c.loaded.ensures.well c.in_ok-info.ensures.well)
