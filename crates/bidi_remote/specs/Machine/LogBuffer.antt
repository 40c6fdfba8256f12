-- The log entries that wait until a session subscribes to them. After WebDriver BiDi, "The log.entryAdded Event"; the limit is this project's own.
use Rattle.std.specs.Prelude.{ℕ, ◌-◌, ◌==◌, Bool, false, not, ◌||◌, if◌then◌else◌, List, [], ◌∷◌, ◌++◌, length, drop, map, filter}
use Rattle.bidi_contexts.specs.declared.occurrence.Top.{Top}
use Rattle.bidi_contexts.specs.Acts.{Logged}
use Rattle.bidi_methods.specs.declared.event_data.EventName.TheVariants.{EntryAdded}
use Rattle.bidi_contexts.specs.Occurrences.{Occurrence, top_at, entry_added}
use Rattle.bidi_remote.specs.Machine.History.{Deed, Began, Subscribed, Did, acts, moment}
use Rattle.bidi_remote.specs.Machine.Sessions.{next_session}
use Rattle.bidi_remote.specs.Machine.Subscriptions.{is_enabled, is_newly_enabled}
use Rattle.bidi_sessions.specs.Limits.{most_missed}

-- A log entry that the session was not sent when it was logged, and whether a later subscription announced it.
pub record Missed : Type 0 where
  pub entry : Occurrence
  pub announced : Bool

-- an entry that was just missed
abbrev pub just_missed : Occurrence → Missed
just_missed entry = record { entry = entry; announced = false }

-- the entry after the entries of some top-level contexts were announced
abbrev pub announced_at : (Top → Bool) → Missed → Missed
announced_at is_announced m = record m { announced = m.announced || is_announced m.entry.top }

-- the entries that a session has missed since it began, the oldest first
abbrev pub missed : List Deed → ℕ → List Missed
missed [] s = []
missed (Began c ∷ past) s = if s == next_session past then [] else missed past s
missed (Did (Logged c level text) ∷ past) s =
    if is_enabled past s EntryAdded (top_at (acts past) c) then missed past s
    else missed past s ++ just_missed (entry_added (acts past) (moment past) c level text) ∷ []
missed (Subscribed t events scope ∷ past) s =
    if s == t then map (announced_at (is_newly_enabled past (Subscribed t events scope) s EntryAdded)) (missed past s) else missed past s
missed (d ∷ past) s = missed past s

-- the last entries of a list, as many as are kept
abbrev pub last_hundred : List Missed → List Missed
last_hundred all = drop (length all - most_missed) all

-- the entries that wait for a session: of those that are kept, the ones that were not announced
abbrev pub waiting_for : List Deed → ℕ → List Occurrence
waiting_for past s = map (λ m. m.entry) (filter (λ m. not m.announced) (last_hundred (missed past s)))
