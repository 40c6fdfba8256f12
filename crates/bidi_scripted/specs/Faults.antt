-- The faults of a scripted end, and when they come. This project's own.
use Rattle.std.specs.Prelude.{◌≡◌, ◌<◌, ◌≤◌, ◌+◌, ℕ, true, false, List, length, Option, None, Some, IsSome}
use Rattle.std.specs.List.{list_all}
use Rattle.bidi_rows.specs.declared.fault.RowFault.{RowFault}
use Rattle.bidi_rows.specs.declared.fault.RowFault.TheVariants as rows
use Rattle.bidi_rows.specs.Rows.{Row, Answer, Event}
use Rattle.bidi_rows.specs.Filling.{Template}
use Rattle.bidi_rows.specs.Reading.{IsAnswer, IsEventText}
use Rattle.bidi_rows.specs.Refusals as texts
use Rattle.bidi_rows.specs.Templates.{AreTemplateTexts}
use Rattle.bidi_remote.specs.declared.remote_end.RemoteFault.{RemoteFault}
use Rattle.bidi_remote.specs.declared.remote_end.RemoteFault.TheVariants as remote
use Rattle.bidi_scripted.specs.declared.fault.ScriptFault.{ScriptFault}
use Rattle.bidi_scripted.specs.declared.fault.ScriptFault.TheVariants as script
use Rattle.bidi_names.specs.Names.{words, can_be_known, new_words}
use Rattle.bidi_scripted.specs.Script.{Script, Held, most_rows, most_known, can_keep, has_method}

-- the fault of a scripted end if its remote end has this one
abbrev pub fault_of : RemoteFault → ScriptFault
fault_of remote.NoMemory = script.NoMemory
fault_of remote.WornOut = script.WornOut

-- the fault of a scripted end if a text was not read for this reason
abbrev pub fault_of_row : RowFault → ScriptFault
fault_of_row rows.NoMemory = script.NoMemory
fault_of_row fault = script.BadRow fault

-- The cases below say when each fault comes. `NoMemory` may come at any time, and a fault without a case never comes. `BadRow` has the first
-- fault of the text, which the reader of the text has found.

-- Why a row of so many bytes is not added: its text is refused for this reason; or it is JSON for a row of the kind, but the script has
-- `most_rows` rows; or it has fewer, but cannot keep so many bytes more.
abbrev pub RefusesRow : (RowFault → Type 0) → (Row → Type 0) → Script → ℕ → ScriptFault → Type 0
RefusesRow Refuses IsRow s bytes script.NoMemory = Unit {0}
RefusesRow Refuses IsRow s bytes (script.BadRow fault) = Refuses fault
RefusesRow Refuses IsRow s bytes script.TooManyRows = ((r : Row) × IsRow r) × (most_rows ≤ length s.rows)
RefusesRow Refuses IsRow s bytes script.TooMuchKept = ((r : Row) × IsRow r) × (length s.rows < most_rows) × (can_keep s bytes ≡ false)
RefusesRow Refuses IsRow s bytes fault = ⊥

-- Why no row of a method is removed: there is none.
abbrev pub RefusesRemoval : List ℕ → Script → ScriptFault → Type 0
RefusesRemoval method s script.NoRow = has_method method s ≡ false
RefusesRemoval method s fault = ⊥

-- Why the events of a text do not follow others: it is refused; or it is JSON for events, but events follow those of `most_rows` methods; or of
-- fewer, but the script cannot keep so many bytes more.
abbrev pub RefusesFollower : List ℕ → Script → ScriptFault → Type 0
RefusesFollower text s script.NoMemory = Unit {0}
RefusesFollower text s (script.BadRow fault) = texts.RefusesTemplates text fault
RefusesFollower text s script.TooManyRows = ((ts : List Template) × AreTemplateTexts text ts) × (most_rows ≤ length s.followers)
RefusesFollower text s script.TooMuchKept =
    ((ts : List Template) × AreTemplateTexts text ts) × (length s.followers < most_rows) × (can_keep s (length text) ≡ false)
RefusesFollower text s fault = ⊥

-- Why the words of a text do not become known: one of them is neither a name nor `*`; or all are, but more than `most_known` would be known.
abbrev pub RefusesNames : List ℕ → Script → ScriptFault → Type 0
RefusesNames text s script.NoMemory = Unit {0}
RefusesNames text s script.BadName = list_all can_be_known (words text) ≡ false
RefusesNames text s script.TooManyNames =
    (list_all can_be_known (words text) ≡ true) × (most_known < length s.known + length (new_words s.known (words text)))
RefusesNames text s fault = ⊥

-- Why an event is not sent: its text is refused; or it is JSON for an event, but the remote end is worn out.
abbrev pub RefusesEvent : List ℕ → ScriptFault → Type 0
RefusesEvent text script.NoMemory = Unit {0}
RefusesEvent text (script.BadRow fault) = texts.RefusesEventText text fault
RefusesEvent text script.WornOut = (e : Event) × IsEventText text e
RefusesEvent text fault = ⊥

-- Why a command is not released: none is held; or one is, whose connection is not gone, but the remote end is worn out.
abbrev pub RefusesRelease : Option Held → ScriptFault → Type 0
RefusesRelease held script.NoMemory = Unit {0}
RefusesRelease held script.NotHeld = held ≡ None
RefusesRelease held script.WornOut = (h : Held) × (held ≡ Some h) × (h.is_lost ≡ false)
RefusesRelease held fault = ⊥

-- Why a command is not answered by a text: none is held; or one is, but the text is refused; or it is JSON for an answer, but the remote end is
-- worn out.
abbrev pub RefusesAnswer : List ℕ → Option Held → ScriptFault → Type 0
RefusesAnswer text held script.NoMemory = Unit {0}
RefusesAnswer text held script.NotHeld = held ≡ None
RefusesAnswer text held (script.BadRow fault) = IsSome held × texts.RefusesAnswerText text fault
RefusesAnswer text held script.WornOut = IsSome held × ((a : Answer) × IsAnswer text a)
RefusesAnswer text held fault = ⊥
