use Rattle.std.proofs.Common.{◌≡◌, map}
use Rattle.bidi_sessions.specs.SubscriptionView.{row_of}
use Rattle.bidi_sessions.specs.SubscriptionRows.{stripped}
use Rattle.bidi_sessions.proofs.BeginLemmas.{over}
use Rattle.bidi_sessions.proofs.subscriptions.strip.Given as goal

-- the subscriptions that were looked at have lost the events
abbrev pub invariant-loop-subscription : goal.invariant-loop-subscription
invariant-loop-subscription l = map row_of l.subscriptions ≡ over (stripped l.events) l.subscription-index (map row_of l.initial.subscriptions)
