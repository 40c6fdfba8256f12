-- What `reduce` writes for the bytes that it reads, and why it may stop early.
use Rattle.std.specs.Prelude.{◌≡◌, ◌≢◌, ℕ, List, [], length}
use Rattle.std.specs.List.{AllByRecursion}
use Rattle.bidi_sessions.specs.Limits.{most_steps}
use Rattle.bidi_sessions.specs.Step.{Step}
use Rattle.bidi_lines.specs.Answering.{HasFirst}
use Rattle.bidi_lines.specs.InputLines.{IsLine, HasLine}
use Rattle.bidi_lines.specs.Stops.{Run}
use Rattle.bidi_play.specs.Lines.{CanBeSaid, said}
use Rattle.bidi_play.specs.Players.{SaysAStep}
use Rattle.bidi_play.specs.Plays.{HasNoPlayLine}
use Rattle.bidi_reduce.specs.Strikes.{Strikes}

-- The bytes are the lines of some steps, and the text has the lines of those that are kept for the session.
abbrev pub ReducesAll : ℕ → List ℕ → List ℕ → Type 0
ReducesAll s bytes text =
    (steps : List Step) × (kept : List Step) × (bytes ≡ said steps) × AllByRecursion CanBeSaid steps × Strikes s steps kept × (text ≡ said kept)

-- Reducing a play as a run over lines, each of which is answered with nothing: it refuses each line that is no play line, and takes as many
-- lines as a remote end takes steps.
abbrev pub reduce_run : Run
reduce_run = record {
  is_line = IsLine;
  is_next = λ at_end line bytes. HasFirst line bytes;
  refuses = λ at_end bytes. HasLine at_end bytes × HasNoPlayLine bytes;
  answers = λ lines text. AllByRecursion SaysAStep lines × (text ≡ []);
  is_worn_out = λ lines rest. (length lines ≡ most_steps) × (rest ≢ []);
  most = most_steps;
}
