-- The output of `play --scripted` for its input, and the reasons to stop early. Defined by this project.
use Rattle.std.specs.Prelude.{◌≡◌, ◌≢◌, ◌⊎◌, ◌^◌, ◌-◌, ℕ, List, [], flat_map, length}
use Rattle.std.specs.List.{AllByRecursion}
use Rattle.bidi_lines.specs.Answering.{HasFirst, LineIs}
use Rattle.bidi_lines.specs.Feeds.{ended}
use Rattle.bidi_lines.specs.InputLines.{IsLine, HasLine, joined}
use Rattle.bidi_lines.specs.Stops.{Run}
use Rattle.bidi_play.specs.Lines.{CanBeSaid, said}
use Rattle.bidi_play.specs.Plays.{PlaysAll}
use Rattle.bidi_sessions.specs.Step.{Step}
use Rattle.bidi_script_lines.specs.ScriptLines.{Line, script_line_of, CanBeWritten}
use Rattle.bidi_script_lines.specs.ScriptPlayers.{SaysNoLine}
use Rattle.bidi_script_lines.specs.InOrder.{IsWrittenFor, IsSpent}

-- the lines of a scripted play, each with its line feed
abbrev pub script_said : List Line → List ℕ
script_said lines = flat_map (λ l. ended (script_line_of l)) lines

-- the bytes are lines of a play and nothing else
abbrev pub IsPlay : List ℕ → Type 0
IsPlay bytes = (steps : List Step) × (bytes ≡ said steps) × AllByRecursion CanBeSaid steps

-- The bytes are lines of a scripted play and nothing else, and the text is what is written for them, one after another. If they are lines of
-- a play, it is what `play` writes.
pub record ScriptedPlaysAll (bytes text : List ℕ) : Type 0 where
  pub lines : List Line
  pub are : bytes ≡ script_said lines
  pub each : AllByRecursion CanBeWritten lines
  pub written : IsWrittenFor lines text
  pub plain : IsPlay bytes → PlaysAll bytes text

-- A scripted play as a run over lines: it refuses each line that is not one of a scripted play, and stops before the end if the remote end
-- has accepted as many inputs as it can, or if there are more lines than can be counted.
abbrev pub script_run : Run
script_run = record {
  is_line = IsLine;
  is_next = λ at_end line bytes. HasFirst line bytes;
  refuses = λ at_end bytes. HasLine at_end bytes × LineIs SaysNoLine bytes;
  answers = λ lines text. ScriptedPlaysAll (joined lines) text;
  is_worn_out = λ lines rest. (rest ≢ []) × (IsSpent lines ⊎ (length lines ≡ 2 ^ 64 - 1));
  most = 2 ^ 64 - 1;
}
