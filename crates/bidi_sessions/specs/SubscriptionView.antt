-- What contracts see of a subscription in the code.
use Rattle.bidi_sessions.specs.declared.subscriptions.Scope as declared_scope
use Rattle.bidi_sessions.specs.declared.subscriptions.Scope.TheVariants as in_code
use Rattle.bidi_sessions.specs.declared.subscriptions.Subscription.{Subscription}
use Rattle.bidi_sessions.specs.Scope.{Scope, All, Below, Within}
use Rattle.bidi_sessions.specs.SubscriptionRows.{SubscriptionRow}

-- the scope, with the numbers of the contexts that it names
abbrev pub scope_of : declared_scope.Scope → Scope
scope_of in_code.All = All
scope_of (in_code.Below tops) = Below tops.items
scope_of (in_code.Within users) = Within users.items

-- the row of a subscription in the code
abbrev pub row_of : Subscription → SubscriptionRow
row_of s = record { number = s.number; events = s.events.items; scope = scope_of s.scope }
