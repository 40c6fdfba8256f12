-- The eight events that can occur, each with its context and its params. After WebDriver BiDi, the events of its modules.
use Rattle.std.specs.Prelude.{ℕ, ◌==◌, Bool, List, [], ◌∷◌, ◌++◌, map, Some, None}
use Rattle.std.specs.List.{list_any}
use Rattle.url.specs.Parts.{Parts}
use Rattle.bidi_tree.specs.Node.{Node, text, no_members}
use Rattle.bidi_scripts.specs.declared.log_entry.Level.{Level}
use Rattle.bidi_scripts.specs.Level.{level_text}
use Rattle.bidi_methods.specs.declared.event_data.EventName.{EventName}
use Rattle.bidi_methods.specs.declared.event_data.EventName.TheVariants.{ContextCreated, ContextDestroyed, NavigationStarted}
use Rattle.bidi_methods.specs.declared.event_data.EventName.TheVariants.{DomContentLoaded, Load, RealmCreated, RealmDestroyed, EntryAdded}
use Rattle.bidi_handles.specs.declared.id.IdKind.TheVariants.{Context, Realm, Navigation}
use Rattle.bidi_contexts.specs.declared.occurrence.Top.{Top}
use Rattle.bidi_contexts.specs.Urls.{url_text, origin_text}
use Rattle.bidi_contexts.specs.Acts.{Act, next_number}
use Rattle.bidi_contexts.specs.Contexts.{top_of, user_of, subtree_of, tree_order}
use Rattle.bidi_contexts.specs.Places.{url_of}
use Rattle.bidi_contexts.specs.Realms.{realm_of}
use Rattle.bidi_handles.specs.Maps.{◌being◌and◌, mapped, listed, word, number, id_tree}
use Rattle.bidi_contexts.specs.Info.{info_of}

-- The place of an event in the list of the eight.
abbrev pub event_place : EventName → ℕ
event_place ContextCreated = 0
event_place ContextDestroyed = 1
event_place NavigationStarted = 2
event_place DomContentLoaded = 3
event_place Load = 4
event_place RealmCreated = 5
event_place RealmDestroyed = 6
event_place EntryAdded = 7

-- The event is in the list.
abbrev pub is_among : List EventName → EventName → Bool
is_among events e = list_any (λ f. event_place f == event_place e) events

-- An event that occurred: its name, its context, the context's top-level context with the user context, and the params.
pub record Occurrence : Type 0 where
  pub event : EventName
  pub context : ℕ
  pub top : Top
  pub params : Node

-- The top-level context of a context, with its user context.
abbrev pub top_at : List Act → ℕ → Top
top_at past c = record { number = top_of past c; user = user_of past c }

-- An event with its params that occurred in a context, with the top-level context that the past gives it.
abbrev pub occurrence : List Act → ℕ → EventName → Node → Occurrence
occurrence past c event params = record { event = event; context = c; top = top_at past c; params = params }

-- The contextCreated event of a context: its Info without its children.
abbrev pub context_created : List Act → ℕ → Occurrence
context_created past c = occurrence past c ContextCreated (info_of past (Some 0) c)

-- The contextDestroyed event of a context: its whole Info, in the past before the context goes.
abbrev pub context_destroyed : List Act → ℕ → Occurrence
context_destroyed past c = occurrence past c ContextDestroyed (info_of past None c)

-- The RealmInfo of the realm of a context.
abbrev pub realm_info : List Act → ℕ → Node
realm_info past c = mapped (
    "realm" being id_tree Realm (realm_of past c) and
    "origin" being text (origin_text (url_of past c)) and
    "type" being word "window" and
    "context" being id_tree Context c and no_members)

-- The realmCreated event of the realm of a context.
abbrev pub realm_created : List Act → ℕ → Occurrence
realm_created past c = occurrence past c RealmCreated (realm_info past c)

-- The realmDestroyed event of the realm of a context.
abbrev pub realm_destroyed : List Act → ℕ → Occurrence
realm_destroyed past c = occurrence past c RealmDestroyed (mapped ("realm" being id_tree Realm (realm_of past c) and no_members))

-- The events that report the whole tree: contextCreated of each live context, then realmCreated of each realm, in tree order.
abbrev pub tree_events : List Act → List Occurrence
tree_events past = map (context_created past) (tree_order past) ++ map (realm_created past) (tree_order past)

-- The events of removing a context: realmDestroyed for it and each descendant in tree order, then contextDestroyed for it.
abbrev pub removal : List Act → ℕ → List Occurrence
removal past c = map (realm_destroyed past) (subtree_of past c) ++ context_destroyed past c ∷ []

-- One of the three events of the next navigation, at the moment.
abbrev pub navigation_event : List Act → ℕ → ℕ → Parts → EventName → Occurrence
navigation_event past moment c url event = occurrence past c event (mapped (
    "context" being id_tree Context c and
    "navigation" being id_tree Navigation (next_number past Navigation) and
    "timestamp" being number moment and
    "url" being text (url_text url) and no_members))

-- A console log entry of a string from a context and its realm, at the moment; its method is the level's name, and its one argument is the string.
abbrev pub console_entry : ℕ → ℕ → ℕ → Level → List ℕ → Node
console_entry moment c r level line = mapped (
    "type" being word "console" and
    "level" being text (level_text level) and
    "method" being text (level_text level) and
    "text" being text line and
    "args" being listed (mapped ("type" being word "string" and "value" being text line and no_members) ∷ []) and
    "source" being mapped ("context" being id_tree Context c and "realm" being id_tree Realm r and no_members) and
    "timestamp" being number moment and no_members)

-- The log.entryAdded event of a string that is logged in a context, at the moment.
abbrev pub entry_added : List Act → ℕ → ℕ → Level → List ℕ → Occurrence
entry_added past moment c level line = occurrence past c EntryAdded (console_entry moment c (realm_of past c) level line)
