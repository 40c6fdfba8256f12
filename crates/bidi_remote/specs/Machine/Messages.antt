-- What it means that the strings that are sent are messages.
use Rattle.std.specs.Prelude.{List, ⊤}
use Rattle.std.specs.List.{AllByRecursion}
use Rattle.bidi_messages.specs.contracts.message.MessageShape.TheImpl.{ghosts}
use Rattle.bidi_messages.specs.Reading.{IsMessageText}
use Rattle.bidi_remote.specs.Machine.Sent.{Sent, Text}

-- A string that is sent is compact JSON, and reads back as a tree that fits the rule of messages. Of what has no string nothing is asked.
abbrev pub ReadsBack : Sent → Type 0
ReadsBack (Text c text) = IsMessageText ghosts.shape text
ReadsBack sent = ⊤

-- Each string that is sent reads back.
abbrev pub AllReadBack : List Sent → Type 0
AllReadBack all = AllByRecursion ReadsBack all
