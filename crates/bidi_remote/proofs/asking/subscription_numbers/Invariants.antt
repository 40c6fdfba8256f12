use Rattle.std.proofs.Common.{◌≡◌, map, take}
use Rattle.bidi_sessions.specs.SubscriptionView.{row_of}
use Rattle.bidi_remote.proofs.asking.subscription_numbers.Given as goal

abbrev pub invariant-loop-subscription : goal.invariant-loop-subscription
invariant-loop-subscription l = l.numbers.items ≡ map (λ r. r.number) (map row_of (take l.subscription-index l.subscriptions))
