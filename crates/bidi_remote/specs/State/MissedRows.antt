-- The log entries that a session has missed: a place for each that is kept, which holds the entry as long as it waits.
use Rattle.std.specs.Prelude.{◌≡◌, ℕ, if◌then◌else◌, List, map, Option, Some, None}
use Rattle.bidi_messages.specs.contracts.message.MessageShape.TheImpl.{ghosts}
use Rattle.bidi_methods.specs.declared.event_data.EventName.TheVariants.{EntryAdded}
use Rattle.bidi_messages.specs.Reading.{IsMessageText}
use Rattle.bidi_remote.specs.Machine.History.{Deed}
use Rattle.bidi_remote.specs.Machine.LogBuffer.{Missed, missed, last_hundred}
use Rattle.bidi_remote.specs.Machine.Sent.{occurrence_text}
use Rattle.bidi_active.specs.Written.{Written}
use Rattle.bidi_remote.specs.State.EventTexts.{written}

-- the place of a missed entry, which is empty once the entry was announced
abbrev pub place_of : Missed → Option Written
place_of m = if m.announced then None else Some (written m.entry)

-- the places that a past leads to
abbrev pub places : List Deed → ℕ → List (Option Written)
places past s = map place_of (last_hundred (missed past s))

-- What was missed is a log entry, and its message reads back.
pub record IsEntry (m : Missed) : Type 0 where
  pub event : m.entry.event ≡ EntryAdded
  pub reads_back : IsMessageText ghosts.shape (occurrence_text m.entry)
