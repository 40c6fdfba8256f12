-- The table of sessions, where an entry was logged.
use Rattle.std.proofs.Common.{◌≡◌, ◌∙◌, ℕ, Bool, true, false, ◌&&◌, List, ◌∷◌, map, refl, sym, ap}
use Rattle.bidi_scripts.specs.declared.log_entry.Level.{Level}
use Rattle.bidi_methods.specs.declared.event_data.EventName.TheVariants.{EntryAdded}
use Rattle.bidi_contexts.specs.Acts.{Logged}
use Rattle.bidi_contexts.specs.Contexts.{up_to}
use Rattle.bidi_contexts.specs.Occurrences.{Occurrence, entry_added}
use Rattle.bidi_remote.specs.Machine.History.{Deed, Did, acts, moment}
use Rattle.bidi_remote.specs.Machine.LogBuffer.{missed}
use Rattle.bidi_remote.specs.Machine.Sessions.{is_active, sessions, sessions_made}
use Rattle.bidi_remote.specs.Machine.Subscriptions.{is_enabled}
use Rattle.bidi_remote.specs.State.EventTexts.{written}
use Rattle.bidi_remote.specs.State.SessionRows.{session_row, session_rows, subscription_rows}
use Rattle.bidi_active.specs.SessionRows.{logged}
use Rattle.bidi_sessions.specs.SubscriptionRows.{any_covers}
use Rattle.bidi_sessions.proofs.ListLemmas.{each-passing, map-twice}
use Rattle.bidi_remote.proofs.PlaceLemmas.{places-more}
use Rattle.bidi_remote.proofs.SubscriptionLemmas.{covers-enabled}

module _ (past : List Deed) (c : ℕ) (level : Level) (line : List ℕ) where
  -- the entry that was logged
  abbrev o : Occurrence
  o = entry_added (acts past) (moment past) c level line

  -- an active session hears it, or misses it
  row-logged : (s : ℕ) (b : Bool) → is_enabled past s EntryAdded o.top ≡ b → any_covers (subscription_rows past s) EntryAdded o.top ≡ b
      → session_row (Did (Logged c level line) ∷ past) s ≡ logged (written o) (session_row past s)
  row-logged s true enabled covered = rw (enabled, covered) refl
  row-logged s false enabled covered = rw (enabled, covered) (ap (λ ps. record (session_row past s) { missed = ps }) (places-more (missed past s) o))

  pub rows-logged : session_rows (Did (Logged c level line) ∷ past) ≡ map (logged (written o)) (session_rows past)
  rows-logged =
      each-passing (session_row (Did (Logged c level line) ∷ past)) (λ s. logged (written o) (session_row past s)) (is_active past) (up_to (sessions_made past))
      (λ s active. row-logged s (any_covers (subscription_rows past s) EntryAdded o.top)
      (covers-enabled past s EntryAdded o.top ∙ ap (λ a. a && any_covers (subscription_rows past s) EntryAdded o.top) active) refl)
      ∙ sym (map-twice (logged (written o)) (session_row past) (sessions past))
