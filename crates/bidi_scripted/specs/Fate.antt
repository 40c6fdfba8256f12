-- What becomes of each step: it is handed on to the machine, or a row answers or holds the command. This project's own.
use Rattle.std.specs.Prelude.{ℕ, ◌==◌, Bool, not, ◌&&◌, ◌||◌, List, length, find, if◌then◌else◌, codes, bytes_eq, is_some, Option, Some, None}
use Rattle.bidi_messages.specs.Verdict.{command_tree}
use Rattle.bidi_sessions.specs.Step.{Step, Text, Open}
use Rattle.bidi_rows.specs.Command.{Command, command_of}
use Rattle.bidi_rows.specs.Rows.{Row, Answer, Action, Answers, Holds, matches}
use Rattle.bidi_remote.specs.Machine.History.{Deed}
use Rattle.bidi_remote.specs.Machine.Connections.{is_open}
use Rattle.bidi_scripted.specs.Script.{Script, has_room_for_command, with_opening}

-- A step is handed on to the machine, a row answers the command of a connection, a row holds it, it cannot be held for want of room, or it may
-- ask for names that are known.
pub data Fate : Type 0 where
  HandedOn : Fate
  Answered : (conn : ℕ) (command : Command) (answer : Answer) → Fate
  Held : (conn : ℕ) (command : Command) (text : List ℕ) → Fate
  Unheld : (conn : ℕ) (command : Command) → Fate
  AsksNames : (conn : ℕ) (text : List ℕ) → Fate

-- whether a command of this method may ask for names: sessions subscribe and unsubscribe by it, and some names are known
abbrev pub asks_names : List (List ℕ) → List ℕ → Bool
asks_names known method = not (length known == 0) && (bytes_eq method (codes "session.subscribe") || bytes_eq method (codes "session.unsubscribe"))

-- what a row does with a command
abbrev pub by_action : Script → ℕ → List ℕ → Command → Action → Fate
by_action script c text command (Answers answer) = Answered c command answer
by_action script c text command Holds = if has_room_for_command script (length text) then Held c command text else Unheld c command

-- what becomes of a command for which there is this row, or none
abbrev pub by_row : Script → ℕ → List ℕ → Command → Option Row → Fate
by_row script c text command None = if asks_names script.known command.method then AsksNames c text else HandedOn
by_row script c text command (Some row) = by_action script c text command row.action

-- what becomes of a message that is a command, or none: the newest row that is for it decides
abbrev pub by_command : Script → ℕ → List ℕ → Option Command → Fate
by_command script c text None = HandedOn
by_command script c text (Some command) = by_row script c text command (find (matches command) script.rows)

-- whether a message is JSON of at most 1,048,576 bytes
abbrev pub is_json : List ℕ → Bool
is_json text = is_some (command_tree text)

-- what becomes of a step: rows are asked of messages on open connections that are JSON
abbrev pub fate : List Deed → Script → Step → Fate
fate past script (Text c text) = if is_open past c && is_json text then by_command script c text (command_of text) else HandedOn
fate past script step = HandedOn

-- the script after a step that was handed on
abbrev pub after_step : List Deed → Step → Script → Script
after_step past (Open c resource) script = if is_open past c then script else with_opening c script
after_step past step script = script
