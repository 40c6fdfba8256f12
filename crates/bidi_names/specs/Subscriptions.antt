-- Subscriptions to names that a test made known. This project's own.
use Rattle.std.specs.Prelude.{ℕ, ◌==◌, ◌+◌, ◌^◌, nat_lt, Bool, not, ◌&&◌, ◌||◌, if◌then◌else◌, List, map, length, filter, bytes_eq, Option, Some, None, string_bytes}
use Rattle.std.specs.List.{list_any}
use Rattle.bidi_handles.specs.Ids.{id_text}
use Rattle.bidi_handles.specs.declared.id.IdKind.TheVariants.{Subscription}
use Rattle.bidi_contexts.specs.declared.occurrence.Top.{Top}
use Rattle.bidi_sessions.specs.Scope.{Scope, is_global, covers, is_listed}
use Rattle.bidi_sessions.specs.SubscriptionView.{scope_of}
use Rattle.bidi_names.specs.declared.subscriptions.NamedSubscription.{NamedSubscription}
use Rattle.bidi_names.specs.Names.{is_or_in}
use Rattle.bidi_names.specs.Sums.{total}

-- What a subscription has that the machine does not know: its session, its number in the session, the names that only the test has, the modules
-- of the profile in which the test may have further events, and its scope.
pub record Named : Type 0 where
  pub session : ℕ
  pub number : ℕ
  pub names : List (List ℕ)
  pub modules : List (List ℕ)
  pub scope : Scope

-- the subscription of the code, with the bytes of its names
abbrev pub named_of : NamedSubscription → Named
named_of n = record {
  session = n.session;
  number = n.number;
  names = map string_bytes n.names.items;
  modules = map string_bytes n.modules.items;
  scope = scope_of n.scope;
}

-- whether a scope has this top-level context; without one, whether it is that of all contexts
abbrev pub is_within : Scope → Option Top → Bool
is_within scope None = is_global scope
is_within scope (Some top) = covers scope top

-- whether a subscription has a name, or a module of it
abbrev pub has_name : Named → List ℕ → Bool
has_name n name = list_any (is_or_in name) n.names || list_any (is_or_in name) n.modules

-- whether a session is subscribed to an event of this name there: to the name, or to a module of it
abbrev pub holds_name : List Named → ℕ → List ℕ → Option Top → Bool
holds_name held s name top = list_any (λ n. (n.session == s) && (has_name n name && is_within n.scope top)) held

-- whether a session is subscribed to this very name for all contexts
abbrev pub holds_globally : List Named → ℕ → List ℕ → Bool
holds_globally held s name = list_any (λ n. (n.session == s) && (is_global n.scope && list_any (bytes_eq name) n.names)) held

-- ---- subscriptions that only the test keeps

-- those of a session that have none of these numbers
abbrev pub unlisted : List ℕ → ℕ → List Named → List Named
unlisted numbers s held = filter (λ n. (n.session == s) && not (is_listed numbers n.number)) held

-- whether an id is that of one of these subscriptions of a session; an id shows numbers below 2^48
abbrev pub is_id_of : List ℕ → ℕ → List ℕ → Bool
is_id_of numbers s id = list_any (λ n. nat_lt n (2 ^ 48) && bytes_eq id (id_text Subscription s n)) numbers

-- the ids of none of them
abbrev pub other_ids : List ℕ → ℕ → List (List ℕ) → List (List ℕ)
other_ids numbers s ids = filter (λ id. not (is_id_of numbers s id)) ids

-- ---- changes

-- without these names and these modules
abbrev pub without : List (List ℕ) → List (List ℕ) → Named → Named
without names modules n = record n {
  names = filter (λ name. not (list_any (bytes_eq name) names)) n.names;
  modules = filter (λ name. not (list_any (bytes_eq name) modules)) n.modules;
}

-- without these names and modules, if it is of this session and for all contexts
abbrev pub stripped : ℕ → List (List ℕ) → List (List ℕ) → Named → Named
stripped s names modules n = if (n.session == s) && is_global n.scope then without names modules n else n

-- whether it has a name or a module left
abbrev pub has_any : Named → Bool
has_any n = not ((length n.names == 0) && (length n.modules == 0))

-- a session is no longer subscribed to these names and modules for all contexts; subscriptions with nothing left are gone
abbrev pub dismissed : ℕ → List (List ℕ) → List (List ℕ) → List Named → List Named
dismissed s names modules held = filter has_any (map (stripped s names modules) held)

-- the subscriptions of these numbers of a session are gone
abbrev pub cancelled : ℕ → List ℕ → List Named → List Named
cancelled s numbers held = filter (λ n. not ((n.session == s) && is_listed numbers n.number)) held

-- those of sessions that are still active
abbrev pub of_active : List ℕ → List Named → List Named
of_active active held = filter (λ n. is_listed active n.session) held

-- how many names of a test a subscription has, if it is of this session
abbrev pub names_in : ℕ → Named → ℕ
names_in s n = if n.session == s then length n.names else 0

-- how many names of a test the subscriptions of a session can have
abbrev pub most_names : ℕ
most_names = 1024

-- whether the subscriptions of a session would have too many names with so many more
abbrev pub is_too_many : ℕ → List Named → ℕ → Bool
is_too_many s held more = nat_lt most_names (total (map (names_in s) held) + more)
