-- What each line of a scripted play brings about, in the words of the scripted end. Defined by this project.
use Rattle.std.specs.Prelude.{◌≡◌, ◌≢◌, ◌⊎◌, ℕ, ◌≤◌, ◌%◌, ◌==◌, nat_le, Bool, true, false, ◌&&◌, ◌||◌, List, [], ◌∷◌, length, map, IfOk, OnErr, IsErrOf, ◌↔◌, Result, Some, None}
use Rattle.std.specs.List.{list_all}
use Rattle.bidi_sessions.specs.Step.{Step}
use Rattle.bidi_sessions.specs.Limits.{most_steps}
use Rattle.bidi_remote.specs.Machine.History.{Input, Drop, IsHeardAs}
use Rattle.bidi_remote.specs.Machine.Connections.{is_open}
use Rattle.bidi_remote.specs.Machine.Outcome.{deeds}
use Rattle.bidi_remote.specs.Machine.Messages.{AllReadBack}
use Rattle.bidi_remote.specs.Machine.Sent.{out, Text, Lost}
use Rattle.bidi_remote.specs.State.Stands.{StandsFor, IsShort}
use Rattle.bidi_remote.specs.declared.remote_end.RemoteFault.{RemoteFault}
use Rattle.bidi_remote.specs.declared.remote_end.RemoteFault.TheVariants.{WornOut}
use Rattle.bidi_rows.specs.Filling.{Template}
use Rattle.bidi_rows.specs.Rows.{Row, Event, Answer}
use Rattle.bidi_rows.specs.Reading.{IsAnswer, IsAnsweringRow, IsHoldingRow, IsEventText}
use Rattle.bidi_rows.specs.Templates.{AreTemplateTexts}
use Rattle.bidi_sessions.specs.Step as steps
use Rattle.bidi_scripted.specs.Script as script
use Rattle.bidi_names.specs.Names.{words, can_be_known}
use Rattle.bidi_scripted.specs.Script.{Script, OnlySubscriptionsChange, no_script, has_room_for_row, has_room_for_follower, has_room_for_names, has_method, held_by, without_held, without_method, with_follower, with_names, with_row}
use Rattle.bidi_scripted.specs.Sending.{emitted, release_sent}
use Rattle.bidi_scripted.specs.View.{script_of}
use Rattle.bidi_scripted.specs.Becomes.{Becomes}
use Rattle.bidi_scripted.specs.Fate.{fate}
use Rattle.bidi_scripted.specs.Kept.{NamesAsked}
use Rattle.bidi_scripted.specs.declared.fault.ScriptFault.{ScriptFault}
use Rattle.bidi_scripted.specs.declared.fault.ScriptFault.TheVariants as faults
use Rattle.bidi_scripted.specs.declared.scripted_end.ScriptedEnd.{ScriptedEnd}
use Rattle.bidi_scripted.specs.declared.scripted_end.Taken.{Taken}
use Rattle.bidi_scripted.specs.declared.scripted_end.Taken.TheVariants as taken
use Rattle.bidi_sessions.specs.View.{sent_of}
use Rattle.bidi_play.specs.Lines.{written}
use Rattle.bidi_script_lines.specs.Outcomes.{Outcome, OfMachine, OfTest, Held, NoEffect, Bytes, Raw, Stalled, Resumed, Cut, CutAfter, Closed, Refusing, outcome_of, outcome_text}
use Rattle.bidi_script_lines.specs.declared.outcome.Outcome as declared
use Rattle.bidi_script_lines.specs.ScriptLines.{Line}
use Rattle.bidi_script_lines.specs.ScriptLines as line

-- With an empty script a step is handed on as it came: what is written is the lines of what the machine sends for it, and each string that is
-- sent reads back. After an error the remote end stands for the histories that it stood for before, and `WornOut` comes exactly after
-- `most_steps` steps.
pub record TakesStep (step : Step) (old new : ScriptedEnd) (result : Result declared.Outcome RemoteFault) : Type 0 where
  pub ok : IfOk result (λ o. (i : Input) × IsHeardAs step i
      × ((h : List Input) → StandsFor old.end h → (outcome_text no_script (outcome_of o) ≡ written (out h i)) × AllReadBack (out h i) × StandsFor new.end (i ∷ h)))
  pub err : OnErr result ((h : List Input) → StandsFor old.end h → StandsFor new.end h)
  pub worn_out : (h : List Input) → StandsFor old.end h → IsErrOf result WornOut ↔ (most_steps ≤ length h)

-- the scripted end is as it was
abbrev pub IsUnchanged : ScriptedEnd → ScriptedEnd → Type 0
IsUnchanged old new = (new.end ≡ old.end) × (script_of new.script ≡ script_of old.script)

-- the script is as it was, and the remote end stands for the histories that it stood for before
abbrev pub StandsAsBefore : ScriptedEnd → ScriptedEnd → Type 0
StandsAsBefore old new = (script_of new.script ≡ script_of old.script) × ((h : List Input) → StandsFor old.end h → StandsFor new.end h)

-- the fault is a reason for which a line has no effect: it is neither `NoMemory` nor `WornOut`
abbrev pub HasReason : ScriptFault → Type 0
HasReason faults.NoMemory = ⊥
HasReason faults.WornOut = ⊥
HasReason fault = Unit {0}

-- nothing has happened, for some reason
abbrev pub HasNoEffect : ScriptedEnd → ScriptedEnd → Outcome → Type 0
HasNoEffect old new o = (reason : List ℕ) × (o ≡ NoEffect reason) × IsUnchanged old new

-- a row, of a text of so many bytes, is the newest one, for which there was room, and nothing is sent
abbrev pub AddsRow : (Row → Type 0) → ℕ → ScriptedEnd → ScriptedEnd → Outcome → Type 0
AddsRow IsRow bytes old new o = (row : Row) × IsRow row × (has_room_for_row (script_of old.script) bytes ≡ true) × (o ≡ OfTest []) × (new.end ≡ old.end)
    × (script_of new.script ≡ with_row row (script_of old.script))

-- nothing has happened, since the text is JSON for no such row, or there is no room for it
abbrev pub AddsNoRow : (Row → Type 0) → ℕ → ScriptedEnd → ScriptedEnd → Outcome → Type 0
AddsNoRow IsRow bytes old new o = ((row : Row) → IsRow row → has_room_for_row (script_of old.script) bytes ≡ false) × HasNoEffect old new o

-- whether a byte is a hexadecimal digit
abbrev pub is_digit : ℕ → Bool
is_digit b = (nat_le 48 b && nat_le b 57) || ((nat_le 65 b && nat_le b 70) || (nat_le 97 b && nat_le b 102))

-- whether the bytes are pairs of hexadecimal digits
abbrev pub is_hex : List ℕ → Bool
is_hex digits = (length digits % 2 == 0) && list_all is_digit digits

-- whether a server may close a connection with this code: RFC 6455, 7.4
abbrev pub is_close_code : ℕ → Bool
is_close_code n = (nat_le 1000 n && nat_le n 1003) || ((nat_le 1007 n && nat_le n 1013) || (nat_le 3000 n && nat_le n 4999))

-- how many handshakes a line has refused at most
abbrev pub most_refused : ℕ
most_refused = 1000000

-- whether so many handshakes can be refused by this status
abbrev pub can_refuse : ℕ → ℕ → Bool
can_refuse n status = nat_le n most_refused && (nat_le 400 status && nat_le status 599)

-- the connection is not open, and nothing happens; or it is, and this does
abbrev pub OnOpen : ℕ → List Input → ScriptedEnd → ScriptedEnd → Outcome → Type 0 → Type 0
OnOpen c h old new o P = ((is_open (deeds h) c ≡ false) × HasNoEffect old new o) ⊎ ((is_open (deeds h) c ≡ true) × P)

-- the remote end has dropped the connection, and the script is as it was
abbrev pub Drops : ℕ → List Input → ScriptedEnd → ScriptedEnd → Type 0
Drops c h old new = StandsFor new.end (Drop c ∷ h) × (script_of new.script ≡ script_of old.script) × IsShort h

-- the outcome of what became of a step: what the remote end sends, what the test sends, or a command that is held
abbrev pub taken_outcome : Taken → Outcome
taken_outcome (taken.HandedOn sent) = OfMachine (map sent_of sent.items)
taken_outcome (taken.Answered sent) = OfTest (map sent_of sent.items)
taken_outcome (taken.Held number) = Held number

-- The held command of this number is released: if its connection is gone it is lost, and otherwise it goes on as it came, or, while names are
-- known, as a message that may ask for them. It is held no longer, and nothing else of the script changes but the subscriptions to names.
pub record Releases (n : ℕ) (h : List Input) (old new : ScriptedEnd) (o : Outcome) : Type 0 where
  pub held : script.Held
  pub was_held : held_by n (script_of old.script) ≡ Some held
  pub lost : held.is_lost ≡ true
      → (o ≡ OfTest (Lost held.conn ∷ [])) × (new.end ≡ old.end) × (script_of new.script ≡ without_held n (script_of old.script))
  pub goes_on : held.is_lost ≡ false → (script_of old.script).known ≡ []
      → (i : Input) × IsHeardAs (steps.Text held.conn held.text) i × (o ≡ OfMachine (out h i)) × StandsFor new.end (i ∷ h) × IsShort h
      × (script_of new.script ≡ without_held n (script_of old.script))
  pub named : held.is_lost ≡ false → (script_of old.script).known ≢ []
      → (t : Taken) × (mid : Script) × NamesAsked held.conn held.text h old.end (script_of old.script) new.end mid t × (o ≡ taken_outcome t)
      × (script_of new.script ≡ without_held n mid)
  pub released : OnlySubscriptionsChange (without_held n (script_of old.script)) (script_of new.script)

-- The held command of this number is answered by this text, or it is lost. It is held no longer.
pub record ReleasesWith (n : ℕ) (text : List ℕ) (h : List Input) (old new : ScriptedEnd) (o : Outcome) : Type 0 where
  pub held : script.Held
  pub was_held : held_by n (script_of old.script) ≡ Some held
  pub answer : Answer
  pub is_answer : IsAnswer text answer
  pub sends : o ≡ OfTest (release_sent (deeds h) (script_of old.script).named held answer)
  pub released : script_of new.script ≡ without_held n (script_of old.script)
  pub end : new.end ≡ old.end

-- all rows of a method, which there are, are removed, and nothing is sent
abbrev pub Removes : List ℕ → ScriptedEnd → ScriptedEnd → Outcome → Type 0
Removes method old new o = (has_method method (script_of old.script) ≡ true) × (o ≡ OfTest []) × (new.end ≡ old.end)
    × (script_of new.script ≡ without_method method (script_of old.script))

-- these events follow those of the method, for which there was room, and nothing is sent
abbrev pub Follows : List ℕ → List ℕ → ScriptedEnd → ScriptedEnd → Outcome → Type 0
Follows method events old new o = (ts : List Template) × AreTemplateTexts events ts
    × (has_room_for_follower (script_of old.script) (length events) ≡ true) × (o ≡ OfTest []) × (new.end ≡ old.end)
    × (script_of new.script ≡ with_follower (record { method = method; events = ts; bytes = length events }) (script_of old.script))

-- whether the words of a text can become known: each is a name or `*`, and there is room for so many
abbrev pub can_know : List ℕ → Script → Bool
can_know names script = list_all can_be_known (words names) && has_room_for_names script (words names)

-- the words of a text, which can become known, are known, and nothing is sent
abbrev pub KnowsMore : List ℕ → ScriptedEnd → ScriptedEnd → Outcome → Type 0
KnowsMore names old new o = (can_know names (script_of old.script) ≡ true) × (o ≡ OfTest []) × (new.end ≡ old.end)
    × (script_of new.script ≡ with_names (words names) (script_of old.script))

-- What a line brings about, if the remote end stands for the history h before it.
abbrev pub Brings : Line → List Input → ScriptedEnd → ScriptedEnd → Outcome → Type 0
-- a step brings about what it is taken as: it is handed on, or a row answers or holds it
Brings (line.Plain step) h old new o = (t : Taken)
    × Becomes (fate (deeds h) (script_of old.script) step) h step old.end (script_of old.script) new.end (script_of new.script) t × (o ≡ taken_outcome t)
-- a row that answers is added, or there is none or no room for it
Brings (line.Answer text) h old new o = AddsRow (IsAnsweringRow text) (length text) old new o ⊎ AddsNoRow (IsAnsweringRow text) (length text) old new o
-- a row that holds is added, or there is none or no room for it
Brings (line.Hold text) h old new o = AddsRow (IsHoldingRow text) (length text) old new o ⊎ AddsNoRow (IsHoldingRow text) (length text) old new o
-- all rows of a method are removed, or there is none
Brings (line.Unanswer method) h old new o = Removes method old new o ⊎ ((has_method method (script_of old.script) ≡ false) × HasNoEffect old new o)
-- an event goes to the sessions that it reaches, or the text is JSON for none
Brings (line.Emit text) h old new o =
    ((e : Event) × IsEventText text e × (o ≡ OfTest (emitted (deeds h) (script_of old.script).named e)) × IsUnchanged old new)
    ⊎ (((e : Event) → IsEventText text e → ⊥) × HasNoEffect old new o)
-- a string is sent as it is
Brings (line.Send c text) h old new o = OnOpen c h old new o ((o ≡ OfTest (Text c text ∷ [])) × IsUnchanged old new)
-- a binary message is sent
Brings (line.Bytes c digits) h old new o =
    OnOpen c h old new o (((is_hex digits ≡ false) × HasNoEffect old new o) ⊎ ((is_hex digits ≡ true) × (o ≡ Bytes c digits) × IsUnchanged old new))
-- bytes are sent without a frame
Brings (line.Raw c digits) h old new o =
    OnOpen c h old new o (((is_hex digits ≡ false) × HasNoEffect old new o) ⊎ ((is_hex digits ≡ true) × (o ≡ Raw c digits) × IsUnchanged old new))
-- a connection is read no more
Brings (line.Stall c) h old new o = OnOpen c h old new o ((o ≡ Stalled c) × IsUnchanged old new)
-- a connection is read again
Brings (line.Resume c) h old new o = OnOpen c h old new o ((o ≡ Resumed c) × IsUnchanged old new)
-- a connection is dropped without a close frame
Brings (line.Cut c) h old new o = OnOpen c h old new o ((o ≡ Cut c) × Drops c h old new)
-- a connection will be cut in its next message
Brings (line.CutAfter c bytes) h old new o = OnOpen c h old new o ((o ≡ CutAfter c bytes) × IsUnchanged old new)
-- a connection is closed with a code, and dropped
Brings (line.Close c code) h old new o =
    OnOpen c h old new o (((is_close_code code ≡ false) × HasNoEffect old new o)
    ⊎ ((is_close_code code ≡ true) × (o ≡ Closed c code) × Drops c h old new))
-- handshakes are refused
Brings (line.Refuse n code) h old new o = ((can_refuse n code ≡ false) × HasNoEffect old new o)
    ⊎ ((can_refuse n code ≡ true) × (o ≡ Refusing n code) × IsUnchanged old new)
-- a held command is released, or there is none
Brings (line.Release n) h old new o = Releases n h old new o
    ⊎ ((held_by n (script_of old.script) ≡ None) × (reason : List ℕ) × (o ≡ NoEffect reason) × StandsAsBefore old new)
-- a held command is answered, or there is none, or the text is JSON for no answer
Brings (line.ReleaseWith n row) h old new o = ReleasesWith n row h old new o
    ⊎ (((held : script.Held) (answer : Answer) → held_by n (script_of old.script) ≡ Some held → IsAnswer row answer → ⊥) × HasNoEffect old new o)
-- events follow others, or the text is JSON for none, or there is no room for them
Brings (line.On method events) h old new o = Follows method events old new o
    ⊎ (((ts : List Template) → AreTemplateTexts events ts → has_room_for_follower (script_of old.script) (length events) ≡ false) × HasNoEffect old new o)
-- names become known, or they cannot
Brings (line.Names names) h old new o = KnowsMore names old new o ⊎ ((can_know names (script_of old.script) ≡ false) × HasNoEffect old new o)
