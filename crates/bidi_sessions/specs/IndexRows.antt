-- The index of a session's subscriptions by event.
use Rattle.std.specs.Prelude.{ℕ, ◌==◌, Bool, not, ◌&&◌, ◌||◌, if◌then◌else◌, List, [], ◌∷◌, ◌++◌, length, map, filter, flat_map}
use Rattle.std.specs.List.{list_any}
use Rattle.std.specs.List.Sorted.{IsPermutation, IsNonDecreasing}
use Rattle.bidi_methods.specs.declared.event_data.EventName.{EventName}
use Rattle.bidi_methods.specs.EventName.{events as all_events}
use Rattle.bidi_contexts.specs.declared.occurrence.Top.{Top}
use Rattle.bidi_contexts.specs.Occurrences.{is_among}
use Rattle.bidi_sessions.specs.Scope.{Scope, All, Below, Within}
use Rattle.bidi_sessions.specs.Scope.{is_global, is_listed}
use Rattle.bidi_sessions.specs.SubscriptionRows.{SubscriptionRow, row_holds}

-- a top-level context or a user context that a subscription names, and the number of that subscription
abbrev pub Pair : Type 0
Pair = ℕ × ℕ

-- a pair for each of these contexts, with the number of the subscription
abbrev pub pairs_at : ℕ → List ℕ → List Pair
pairs_at n named = map (λ m. (m, n)) named

-- the top-level contexts that a scope names
abbrev pub tops_of : Scope → List ℕ
tops_of (Below tops) = tops
tops_of scope = []

-- the user contexts that a scope names
abbrev pub users_of : Scope → List ℕ
users_of (Within users) = users
users_of scope = []

-- all that a scope names; a global scope names nothing
abbrev pub named_in : Scope → List ℕ
named_in All = []
named_in (Below tops) = tops
named_in (Within users) = users

-- The list has exactly what the scope names, in ascending order.
pub record AreInOrder (scope : Scope) (named : List ℕ) : Type 0 where
  pub moved : IsPermutation (named_in scope) named
  pub ascending : IsNonDecreasing named

-- the numbers of the global subscriptions that have the event
abbrev pub global_numbers : EventName → List SubscriptionRow → List ℕ
global_numbers e rows = map (λ r. r.number) (filter (row_holds e) rows)

-- the pairs of the subscriptions that have the event, for the contexts that they name
abbrev pub scoped_pairs : (Scope → List ℕ) → EventName → List SubscriptionRow → List Pair
scoped_pairs named e rows = flat_map (λ r. pairs_at r.number (named r.scope)) (filter (λ r. is_among r.events e) rows)

-- A row of the index: the event, the numbers of its global subscriptions, and for each test whether some pair passes it.
-- The order of the pairs does not matter.
pub record IndexRow : Type 0 where
  pub event : EventName
  pub global : List ℕ
  pub any_below : (Pair → Bool) → Bool
  pub any_within : (Pair → Bool) → Bool

-- the row that some subscriptions give an event
abbrev pub index_row : List SubscriptionRow → EventName → IndexRow
index_row rows e = record { event = e; global = global_numbers e rows; any_below = λ t. list_any t (scoped_pairs tops_of e rows); any_within = λ t. list_any t (scoped_pairs users_of e rows) }

-- the index of some subscriptions, with a row for each event
abbrev pub index : List SubscriptionRow → List IndexRow
index rows = map (index_row rows) all_events

-- ---- questions about a row

-- whether a global subscription has the event
abbrev pub is_held : IndexRow → Bool
is_held x = not (length x.global == 0)

-- whether a subscription has the event and covers this top-level context
abbrev pub hears : Top → IndexRow → Bool
hears top x = is_held x || (x.any_below (λ p. p.0 == top.number) || x.any_within (λ p. p.0 == top.user))

-- ---- changes of a row

-- the number of the subscription if it is global, and else nothing
abbrev pub global_of : SubscriptionRow → List ℕ
global_of r = if is_global r.scope then r.number ∷ [] else []

-- the row with one more subscription, if that has the event
abbrev pub with_row : SubscriptionRow → IndexRow → IndexRow
with_row r x =
    if is_among r.events x.event
    then record x {
      global = x.global ++ global_of r;
      any_below = λ t. x.any_below t || list_any t (pairs_at r.number (tops_of r.scope));
      any_within = λ t. x.any_within t || list_any t (pairs_at r.number (users_of r.scope));
    }
    else x

-- the row without the subscriptions of these numbers
abbrev pub without_numbers : List ℕ → IndexRow → IndexRow
without_numbers ns x = record x {
  global = filter (λ n. not (is_listed ns n)) x.global;
  any_below = λ t. x.any_below (λ p. not (is_listed ns p.1) && t p);
  any_within = λ t. x.any_within (λ p. not (is_listed ns p.1) && t p);
}

-- the row without its global subscriptions, if the event is one of these
abbrev pub without_global : List EventName → IndexRow → IndexRow
without_global es x = if is_among es x.event then record x { global = [] } else x
