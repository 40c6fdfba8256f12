-- The messages of events, as contracts see them.
use Rattle.std.specs.Prelude.{List}
use Rattle.std.specs.List.{AllByRecursion}
use Rattle.bidi_messages.specs.contracts.message.MessageShape.TheImpl.{ghosts}
use Rattle.bidi_messages.specs.Reading.{IsMessageText}
use Rattle.bidi_contexts.specs.Occurrences.{Occurrence}
use Rattle.bidi_active.specs.Written.{Written}
use Rattle.bidi_remote.specs.Machine.Sent.{occurrence_text}

-- the message of an event that occurred
abbrev pub written : Occurrence → Written
written o = record { top = o.top; text = occurrence_text o }

-- Each string is that of a message, and reads back.
abbrev pub AreMessages : List Written → Type 0
AreMessages ws = AllByRecursion (λ w. IsMessageText ghosts.shape w.text) ws
