use Rattle.std.proofs.Common.{◌≡◌, ◌<◌, ◌^◌, ℕ, Bool, true, Some, IfSome, option_map, rules, tests}
use Rattle.std.specs.Prelude.{bytes_eq, find}
use Rattle.std.proofs.lemmas.Iterator.{YieldsList-from_slice}
use Rattle.std.proofs.lemmas.Iterator.Search.{find_from_yields_List}
use Rattle.bidi_handles.specs.declared.id.IdKind.TheVariants.{Subscription as OfSubscription}
use Rattle.bidi_handles.specs.Ids.{id_text}
use Rattle.bidi_sessions.specs.declared.subscriptions.Subscription.{Subscription}
use Rattle.bidi_sessions.proofs.subscriptions.number_of.Goals as goal

-- with any test in place of the text of an id, which a search would write out
pub returns : goal.returns
returns c =
    let by : (t : ℕ → Bool) → IfSome c.id_number.result (λ n. (n < 2 ^ 48) × (t n ≡ true))
    → ((n : ℕ) → n < 2 ^ 48 → t n ≡ true → c.id_number.result ≡ Some n)
    → c.map.result ≡ option_map (λ s. s.number) (find (λ s. t s.number) c.args.subscriptions.now) = λ t some every.
    let found = find_from_yields_List (λ (s : Subscription). t s.number) _ _ c.find.result c.find.ensures.ran
    (YieldsList-from_slice c.args.subscriptions.now (cc)) (λ x b q k. search (rules, tests)) in
    search (rules, found) in
    by (λ n. bytes_eq c.args.id.now (id_text OfSubscription c.args.session n)) c.id_number.ensures.some c.id_number.ensures.every
