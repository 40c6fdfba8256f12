-- The output of `play` for its input, and the reasons to stop early. Defined by this project.
use Rattle.std.specs.Prelude.{◌≡◌, ℕ, List, [], ◌++◌, length}
use Rattle.std.specs.List.{AllByRecursion}
use Rattle.bidi_sessions.specs.Limits.{most_steps}
use Rattle.bidi_sessions.specs.Step.{Step}
use Rattle.bidi_remote.specs.Machine.History.{Input, AreHeardAs}
use Rattle.bidi_remote.specs.Machine.Sent.{answers}
use Rattle.bidi_remote.specs.Machine.Messages.{AllReadBack}
use Rattle.bidi_lines.specs.Answering.{HasFirst}
use Rattle.bidi_lines.specs.Feeds.{ended}
use Rattle.bidi_lines.specs.InputLines.{IsLine, HasLine, joined}
use Rattle.bidi_lines.specs.Stops.{Run}
use Rattle.bidi_lines.specs.declared.answering.LinesFault.{LinesFault}
use Rattle.bidi_lines.specs.declared.answering.LinesFault.TheVariants as lines
use Rattle.bidi_play.specs.Lines.{line_of, CanBeSaid, said, written}
use Rattle.bidi_play.specs.declared.playing.PlayFault.{PlayFault}
use Rattle.bidi_play.specs.declared.playing.PlayFault.TheVariants.{Read, Write, BadLine, NoMemory, WornOut}

-- The bytes are the lines of these steps and then this rest, and the text has the lines of what the machine sends for the steps. Each text
-- that the machine sends is that of a message, and reads back as that message.
pub record Play (bytes : List ℕ) (steps : List Step) (rest : List ℕ) (text : List ℕ) : Type 0 where
  pub lines : bytes ≡ said steps ++ rest
  pub each : AllByRecursion CanBeSaid steps
  pub inputs : List Input
  pub heard : AreHeardAs steps inputs
  pub answer : text ≡ written (answers inputs)
  pub reads_back : AllReadBack (answers inputs)

-- the bytes begin with a play line
abbrev pub HasPlayLine : List ℕ → Type 0
HasPlayLine bytes = (s : Step) × (more : List ℕ) × CanBeSaid s × (bytes ≡ ended (line_of s) ++ more)

-- the bytes do not begin with a play line
abbrev pub HasNoPlayLine : List ℕ → Type 0
HasNoPlayLine bytes = (s : Step) (more : List ℕ) → CanBeSaid s → bytes ≡ ended (line_of s) ++ more → ⊥

-- the text is what a play writes for the play lines at the front of these bytes, up to the first line that is not one
abbrev pub Plays : List ℕ → List ℕ → Type 0
Plays bytes text = (steps : List Step) × (rest : List ℕ) × Play bytes steps rest text × HasNoPlayLine rest

-- the text is what a play writes for these bytes, which are play lines only
abbrev pub PlaysAll : List ℕ → List ℕ → Type 0
PlaysAll bytes text = (steps : List Step) × Play bytes steps [] text

-- a play as a run over lines: it refuses each line that is not a play line, and takes as many lines as a remote end takes steps
abbrev pub play_run : Run
play_run = record {
  is_line = IsLine;
  is_next = λ at_end line bytes. HasFirst line bytes;
  refuses = λ at_end bytes. HasLine at_end bytes × HasNoPlayLine bytes;
  answers = λ lines text. PlaysAll (joined lines) text;
  is_worn_out = λ lines rest. (length lines ≡ most_steps) × HasPlayLine rest;
  most = most_steps;
}

-- the fault of a run over lines that a fault of a play is
abbrev pub lines_fault : PlayFault → LinesFault
lines_fault Read = lines.Read
lines_fault Write = lines.Write
lines_fault (BadLine n) = lines.BadLine n
lines_fault NoMemory = lines.NoMemory
lines_fault WornOut = lines.WornOut

-- the fault of a play for a fault of its lines
abbrev pub play_fault_of : LinesFault → PlayFault
play_fault_of lines.Read = Read
play_fault_of lines.Write = Write
play_fault_of (lines.BadLine n) = BadLine n
play_fault_of lines.NoMemory = NoMemory
play_fault_of lines.TooManyLines = WornOut
play_fault_of lines.WornOut = WornOut
