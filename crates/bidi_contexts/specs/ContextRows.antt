-- The table of live contexts: a row for each, in tree order, and what is reported of a row.
use Rattle.std.specs.Prelude.{ℕ, ◌==◌, if◌then◌else◌, not, List, [], ◌∷◌, ◌++◌, filter, map, Option, Some, None}
use Rattle.std.specs.List.{list_any}
use Rattle.url.specs.Parts.{Parts}
use Rattle.bidi_tree.specs.Node.{Node, null, text, Members, no_members}
use Rattle.bidi_scripts.specs.declared.log_entry.Level.{Level}
use Rattle.bidi_methods.specs.declared.event_data.EventName.{EventName}
use Rattle.bidi_methods.specs.declared.event_data.EventName.TheVariants.{ContextCreated, RealmCreated, RealmDestroyed, EntryAdded}
use Rattle.bidi_handles.specs.declared.id.IdKind.TheVariants as kind
use Rattle.bidi_contexts.specs.declared.context.Context.{Context}
use Rattle.bidi_contexts.specs.Urls.{url_text, origin_text}
use Rattle.bidi_contexts.specs.Acts.{Act, Move}
use Rattle.bidi_contexts.specs.Contexts.{tree_order, parent_of, top_of, level_of, window_of, user_of}
use Rattle.bidi_contexts.specs.Users.{user_id}
use Rattle.bidi_contexts.specs.Places.{Entries, present, moved, entries_of}
use Rattle.bidi_contexts.specs.Realms.{realm_of, handles_of}
use Rattle.bidi_handles.specs.Handles.{handles_seen, held_among}
use Rattle.bidi_handles.specs.Maps.{◌being◌and◌, mapped, word, number, id_tree}
use Rattle.bidi_contexts.specs.Info.{parent_tree}
use Rattle.bidi_contexts.specs.HistoryInHand.{entries_in}
use Rattle.bidi_contexts.specs.Occurrences.{Occurrence, console_entry}

-- A live context: its number, its parent if it is a child, its top-level context, its level, window, user context and realm, its session history and the
-- handles in its realm.
pub record ContextRow : Type 0 where
  pub number : ℕ
  pub parent : Option ℕ
  pub top : ℕ
  pub level : ℕ
  pub window : ℕ
  pub user : ℕ
  pub realm : ℕ
  pub entries : Entries
  pub handles : List (ℕ × Node)

-- The URL of the present entry of a row.
abbrev pub url_in : ContextRow → Parts
url_in row = present row.entries

-- The value that the handle of an id holds in the realm of a row.
abbrev pub held_in_row : ContextRow → List ℕ → Option Node
held_in_row row = held_among row.handles

-- The row of a context that the code has.
abbrev pub row_of : Context → ContextRow
row_of c =
    record {
      number = c.number;
      parent = c.details.value.parent;
      top = c.details.value.top;
      level = c.details.value.level;
      window = c.details.value.window;
      user = c.details.value.user;
      realm = c.details.value.realm;
      entries = entries_in c.details.value.history;
      handles = handles_seen c.details.value.handles;
    }

-- The row that a past gives a context.
abbrev pub row_at : List Act → ℕ → ContextRow
row_at past c =
    record {
      number = c;
      parent = parent_of past c;
      top = top_of past c;
      level = level_of past c;
      window = window_of past c;
      user = user_of past c;
      realm = realm_of past c;
      entries = entries_of past c;
      handles = handles_of past (realm_of past c);
    }

-- The rows of the live contexts, in tree order.
abbrev pub rows : List Act → List ContextRow
rows past = map (row_at past) (tree_order past)

-- ---- what is told of a row

-- The members of the Info of a row, without its parent.
abbrev pub members_in : ContextRow → Node → Members
members_in row children =
    "children" being children and
    "clientWindow" being id_tree kind.Window row.window and
    "context" being id_tree kind.Context row.number and
    "originalOpener" being null and
    "url" being text (url_text (url_in row)) and
    "userContext" being text (user_id row.user) and no_members

-- The Info of a row, with a member `parent` if one is given.
abbrev pub shown_info : Option Node → ContextRow → Node → Node
shown_info None row children = mapped (members_in row children)
shown_info (Some parent) row children = mapped ("parent" being parent and members_in row children)

-- The Info of a row in its parent's list of children; it has no member `parent`.
abbrev pub inner_info : ContextRow → Node → Node
inner_info row children = shown_info None row children

-- The Info of a row at the root of a tree; it has a member `parent`.
abbrev pub root_info : ContextRow → Node → Node
root_info row children = shown_info (Some (parent_tree row.parent)) row children

-- The RealmInfo of a realm of a row whose document is at a URL.
abbrev pub realm_info_at : ContextRow → ℕ → Parts → Node
realm_info_at row realm url = mapped (
    "realm" being id_tree kind.Realm realm and
    "origin" being text (origin_text url) and
    "type" being word "window" and
    "context" being id_tree kind.Context row.number and no_members)

-- ---- its events

-- An event with its params that occurred in the context of a row.
abbrev pub occurrence_in : ContextRow → EventName → Node → Occurrence
occurrence_in row event params = record { event = event; context = row.number; top = record { number = row.top; user = row.user }; params = params }

-- The log.entryAdded event of a string that was logged in the context of a row, at the moment.
abbrev pub entry_added_in : ContextRow → ℕ → Level → List ℕ → Occurrence
entry_added_in row moment level line = occurrence_in row EntryAdded (console_entry moment row.number row.realm level line)

-- The contextCreated event of a row.
abbrev pub created_in : ContextRow → Occurrence
created_in row = occurrence_in row ContextCreated (root_info row null)

-- The RealmInfo of the realm of a row.
abbrev pub realm_info_in : ContextRow → Node
realm_info_in row = realm_info_at row row.realm (url_in row)

-- The realmCreated event of a realm of a row whose document is at a URL.
abbrev pub realm_began_in : ContextRow → ℕ → Parts → Occurrence
realm_began_in row realm url = occurrence_in row RealmCreated (realm_info_at row realm url)

-- The realmCreated event of the realm of a row.
abbrev pub realm_created_in : ContextRow → Occurrence
realm_created_in row = realm_began_in row row.realm (url_in row)

-- The realmDestroyed event of the realm of a row.
abbrev pub realm_destroyed_in : ContextRow → Occurrence
realm_destroyed_in row = occurrence_in row RealmDestroyed (mapped ("realm" being id_tree kind.Realm row.realm and no_members))

-- The params of an event of a navigation of a row to a URL, at the moment.
abbrev pub navigation_info_in : ContextRow → ℕ → ℕ → Parts → Node
navigation_info_in row moment navigation url = mapped (
    "context" being id_tree kind.Context row.number and
    "navigation" being id_tree kind.Navigation navigation and
    "timestamp" being number moment and
    "url" being text (url_text url) and no_members)

-- ---- how it changes

-- The row after a navigation: its realm is new and has no handles, and its session history has moved.
abbrev pub moved_in : ℕ → Move → ContextRow → ContextRow
moved_in realm move row = record row { realm = realm; entries = moved row.entries move; handles = [] }

-- The row after its realm got one more handle.
abbrev pub held_in : ℕ × Node → ContextRow → ContextRow
held_in held row = record row { handles = row.handles ++ held ∷ [] }

-- The row after its realm lost the handles of these numbers.
abbrev pub without_in : List ℕ → ContextRow → ContextRow
without_in numbers row = record row { handles = filter (λ held. not (list_any (λ n. n == held.0) numbers)) row.handles }

-- The rows with the first row of a context changed and all others kept.
abbrev pub changed : ℕ → (ContextRow → ContextRow) → List ContextRow → List ContextRow
changed c f [] = []
changed c f (r ∷ rows) = if r.number == c then f r ∷ rows else r ∷ changed c f rows
