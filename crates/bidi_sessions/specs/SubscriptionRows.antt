-- The live subscriptions of a session, as contracts see them.
use Rattle.std.specs.Prelude.{ℕ, ◌==◌, Bool, not, ◌&&◌, if◌then◌else◌, List, [], ◌∷◌, length, map}
use Rattle.std.specs.Prelude.{filter, find, bytes_eq, Option, option_map, Result, Ok}
use Rattle.std.specs.List.{list_any, list_all}
use Rattle.bidi_params.specs.declared.error_code.ErrorCode.{ErrorCode}
use Rattle.bidi_params.specs.declared.error_code.ErrorCode.TheVariants.{InvalidArgument}
use Rattle.bidi_methods.specs.declared.event_data.EventName.{EventName}
use Rattle.bidi_handles.specs.declared.id.IdKind.TheVariants.{Subscription}
use Rattle.bidi_handles.specs.Ids.{id_text}
use Rattle.bidi_handles.specs.Checks.{◌>>=◌, found}
use Rattle.bidi_contexts.specs.declared.occurrence.Top.{Top}
use Rattle.bidi_contexts.specs.Occurrences.{is_among}
use Rattle.bidi_sessions.specs.Scope.{Scope, is_global, is_listed, covers}

-- A live subscription has a number, the events that no unsubscribe has taken from it, and a scope.
pub record SubscriptionRow : Type 0 where
  pub number : ℕ
  pub events : List EventName
  pub scope : Scope

-- ---- questions about the rows

-- whether the subscription has the event and covers the top-level context
abbrev pub row_covers : EventName → Top → SubscriptionRow → Bool
row_covers e top r = is_among r.events e && covers r.scope top

-- whether one of the subscriptions has the event and covers the top-level context
abbrev pub any_covers : List SubscriptionRow → EventName → Top → Bool
any_covers rows e top = list_any (row_covers e top) rows

-- whether the subscription is global and has the event
abbrev pub row_holds : EventName → SubscriptionRow → Bool
row_holds e r = is_global r.scope && is_among r.events e

-- whether one of the subscriptions is global and has the event
abbrev pub any_global : List SubscriptionRow → EventName → Bool
any_global rows e = list_any (row_holds e) rows

-- whether a subscription to these events may newly enable the event for some context: they have it, and no global subscription does
abbrev pub may_be_new : List SubscriptionRow → List EventName → EventName → Bool
may_be_new held events e = is_among events e && not (any_global held e)

-- the number of the subscription that has this id
abbrev pub number_named : ℕ → List SubscriptionRow → List ℕ → Option ℕ
number_named s rows id = option_map (λ r. r.number) (find (λ r. bytes_eq id (id_text Subscription s r.number)) rows)

-- the numbers of the subscriptions that have these ids; an id of none is an invalid argument
abbrev pub numbers_named : ℕ → List SubscriptionRow → List (List ℕ) → Result (List ℕ) ErrorCode
numbers_named s rows [] = Ok []
numbers_named s rows (id ∷ ids) = do
  n ← found (number_named s rows id) InvalidArgument
  ns ← numbers_named s rows ids
  Ok (n ∷ ns)

-- ---- changes of the rows

-- the subscriptions without those of these numbers
abbrev pub without : List ℕ → List SubscriptionRow → List SubscriptionRow
without ns rows = filter (λ r. not (is_listed ns r.number)) rows

-- whether the subscription is global, has events, and would lose the last of them with these
abbrev pub loses_all : List EventName → SubscriptionRow → Bool
loses_all es r = is_global r.scope && (not (length r.events == 0) && list_all (is_among es) r.events)

-- the subscription without these events, if it is global
abbrev pub stripped : List EventName → SubscriptionRow → SubscriptionRow
stripped es r = if is_global r.scope then record r { events = filter (λ e. not (is_among es e)) r.events } else r

-- the subscriptions after the global ones lost these events, without those that lost their last event
abbrev pub dismissed : List EventName → List SubscriptionRow → List SubscriptionRow
dismissed es rows = map (stripped es) (filter (λ r. not (loses_all es r)) rows)
