-- The rows of the table of active sessions, and how they change.
use Rattle.std.specs.Prelude.{ℕ, suc, ◌==◌, if◌then◌else◌, List, [], ◌∷◌, ◌++◌, find, Option, unwrap_or}
use Rattle.bidi_methods.specs.declared.event_data.EventName.{EventName}
use Rattle.bidi_methods.specs.declared.event_data.EventName.TheVariants.{EntryAdded}
use Rattle.bidi_contexts.specs.Acts.{Act}
use Rattle.bidi_sessions.specs.Scope.{Scope}
use Rattle.bidi_sessions.specs.SubscriptionRows.{SubscriptionRow, any_covers, without, dismissed}
use Rattle.bidi_active.specs.Written.{Written}
use Rattle.bidi_active.specs.News.{is_new}
use Rattle.bidi_active.specs.Places.{all_left, with_missed}

-- An active session has a number, a count of the subscriptions it ever made, live subscriptions, and log entries that it missed.
pub record SessionRow : Type 0 where
  pub number : ℕ
  pub made : ℕ
  pub subscriptions : List SubscriptionRow
  pub missed : List (Option Written)

-- ---- changes of the rows

-- the row of a session that has just begun
abbrev pub begun : ℕ → SessionRow
begun s = record { number = s; made = 0; subscriptions = []; missed = [] }

-- the row with one more subscription, and without the log entries that it newly enables
abbrev pub subscribed : List Act → List EventName → Scope → SessionRow → SessionRow
subscribed past es scope r = record r {
  made = suc r.made;
  subscriptions = r.subscriptions ++ record { number = suc r.made; events = es; scope = scope } ∷ [];
  missed = all_left (is_new past r.subscriptions es scope EntryAdded) r.missed;
}

-- the row without the subscriptions of these numbers
abbrev pub cancelled : List ℕ → SessionRow → SessionRow
cancelled ns r = record r { subscriptions = without ns r.subscriptions }

-- the row after its global subscriptions lost these events
abbrev pub lost : List EventName → SessionRow → SessionRow
lost es r = record r { subscriptions = dismissed es r.subscriptions }

-- the row after an entry was logged, which the session hears or misses
abbrev pub logged : Written → SessionRow → SessionRow
logged w r = if any_covers r.subscriptions EntryAdded w.top then r else record r { missed = with_missed w r.missed }

-- the rows with the first row of this session changed
abbrev pub changed : ℕ → (SessionRow → SessionRow) → List SessionRow → List SessionRow
changed s f [] = []
changed s f (r ∷ rows) = if r.number == s then f r ∷ rows else r ∷ changed s f rows

-- the row of this session; a session that has none is as it began
abbrev pub row_in : ℕ → List SessionRow → SessionRow
row_in s rows = unwrap_or (find (λ r. r.number == s) rows) (begun s)
