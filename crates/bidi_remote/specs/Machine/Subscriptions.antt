-- The subscriptions of a session, and the events that they enable. After WebDriver BiDi, "The session.subscribe Command" and "The session.unsubscribe Command".
use Rattle.std.specs.Prelude.{ℕ, suc, ◌==◌, Bool, false, not, ◌&&◌, ◌||◌, if◌then◌else◌, List, [], ◌∷◌, length, filter}
use Rattle.std.specs.List.{list_any}
use Rattle.bidi_contexts.specs.Contexts.{up_to, is_alive}
use Rattle.bidi_methods.specs.declared.event_data.EventName.{EventName}
use Rattle.bidi_methods.specs.EventName.{events as all_events}
use Rattle.bidi_contexts.specs.declared.occurrence.Top.{Top}
use Rattle.bidi_contexts.specs.Occurrences.{is_among}
use Rattle.bidi_remote.specs.Machine.History.{Deed, Subscribed, Cancelled, Dismissed, Scope, All, acts}
use Rattle.bidi_remote.specs.Machine.Sessions.{is_active}
pub use Rattle.bidi_sessions.specs.Scope.{is_global, is_listed, covers}

-- how many subscriptions a session has ever made
abbrev pub subscriptions_made : List Deed → ℕ → ℕ
subscriptions_made [] s = 0
subscriptions_made (Subscribed t events scope ∷ past) s = if s == t then suc (subscriptions_made past s) else subscriptions_made past s
subscriptions_made (d ∷ past) s = subscriptions_made past s

-- the number of the next subscription of a session
abbrev pub next_subscription : List Deed → ℕ → ℕ
next_subscription past s = suc (subscriptions_made past s)

-- the events that the n-th subscription of a session was made for
abbrev pub events_of : List Deed → ℕ → ℕ → List EventName
events_of [] s n = []
events_of (Subscribed t events scope ∷ past) s n = if s == t && n == next_subscription past s then events else events_of past s n
events_of (d ∷ past) s n = events_of past s n

-- the scope of the n-th subscription of a session
abbrev pub scope_of : List Deed → ℕ → ℕ → Scope
scope_of [] s n = All
scope_of (Subscribed t events scope ∷ past) s n = if s == t && n == next_subscription past s then scope else scope_of past s n
scope_of (d ∷ past) s n = scope_of past s n

-- whether the n-th subscription was made, and no unsubscribe has named its id since
abbrev pub is_kept : List Deed → ℕ → ℕ → Bool
is_kept [] s n = false
is_kept (Subscribed t events scope ∷ past) s n = (s == t && n == next_subscription past s) || is_kept past s n
is_kept (Cancelled t ns ∷ past) s n = not (s == t && is_listed ns n) && is_kept past s n
is_kept (d ∷ past) s n = is_kept past s n

-- whether the n-th subscription still has the event: it was made for it, and no unsubscribe has taken it away
abbrev pub holds : List Deed → ℕ → ℕ → EventName → Bool
holds [] s n e = false
holds (Subscribed t events scope ∷ past) s n e = if s == t && n == next_subscription past s then is_among events e else holds past s n e
holds (Cancelled t ns ∷ past) s n e = not (s == t && is_listed ns n) && holds past s n e
holds (Dismissed t events ∷ past) s n e = not (s == t && is_global (scope_of past s n) && is_among events e) && holds past s n e
holds (d ∷ past) s n e = holds past s n e

-- whether the n-th subscription is live: it is kept, and has an event left or was made for none
abbrev pub is_live : List Deed → ℕ → ℕ → Bool
is_live past s n = is_kept past s n && (length (events_of past s n) == 0 || list_any (holds past s n) all_events)

-- the live subscriptions of a session, in order of number
abbrev pub subscriptions : List Deed → ℕ → List ℕ
subscriptions past s = filter (is_live past s) (up_to (subscriptions_made past s))

-- whether a live global subscription of the session has the event
abbrev pub holds_globally : List Deed → ℕ → EventName → Bool
holds_globally past s e = list_any (λ n. is_global (scope_of past s n) && holds past s n e) (subscriptions past s)

-- ---- which events are enabled

-- whether the event is enabled for the session in the tree of this top-level context
abbrev pub is_enabled : List Deed → ℕ → EventName → Top → Bool
is_enabled past s e top =
    is_active past s && list_any (λ n. holds past s n e && covers (scope_of past s n) top) (up_to (subscriptions_made past s))

-- whether the deed enables the event in the tree of this live top-level context, where it was not enabled before
abbrev pub is_newly_enabled : List Deed → Deed → ℕ → EventName → Top → Bool
is_newly_enabled past d s e top = is_alive (acts past) top.number && not (is_enabled past s e top) && is_enabled (d ∷ past) s e top
