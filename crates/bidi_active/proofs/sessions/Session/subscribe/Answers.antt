use Rattle.std.proofs.Common.{◌≡◌, ◌∙◌, ◌+◌, ◌%◌, ◌∷◌, ◌++◌, [], suc, ap, arith}
use Rattle.bidi_methods.specs.declared.event_data.EventName.TheVariants.{EntryAdded}
use Rattle.bidi_active.specs.Places.{all_left, places_in}
use Rattle.bidi_active.specs.News.{is_new}
use Rattle.bidi_sessions.specs.SubscriptionView.{scope_of}
use Rattle.bidi_sessions.specs.SubscriptionsView.{rows_of}
use Rattle.bidi_active.proofs.sessions.Session.subscribe.Goals as goal

pub returns : goal.returns
returns c = λ past stands few.
    let was = c.args.self.now in
    let held = rows_of was.subscriptions in
    let scope = scope_of c.args.scope in
    let next : c.next_subscription-number.result ≡ suc was.made = let number = c.next_subscription-number.ensures few in omega (arith, number) in
    let rows = c.add.ensures ∙ ap (λ n. held ++ record { number = n; events = c.args.events.items; scope = scope } ∷ []) next in
    let missed = c.announce.ensures past stands ∙ ap (λ es. all_left (is_new past held es scope EntryAdded) (places_in was.missed)) c.deref.ensures.value in
    λ i. record { number = was.number; made = next i; subscriptions = rows i; missed = missed i }
