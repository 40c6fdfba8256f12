-- The output of `reduce --scripted` for its input, and the reasons to stop early. Defined by this project.
use Rattle.std.specs.Prelude.{◌≡◌, ◌≢◌, ℕ, ◌≤◌, Bool, true, false, List, [], ◌∷◌, ◌++◌, length, map, ⊤}
use Rattle.std.specs.List.{AllByRecursion}
use Rattle.bidi_lines.specs.Answering.{AnswersOf, HasFirst, LineIs}
use Rattle.bidi_lines.specs.InputLines.{IsLine, HasLine}
use Rattle.bidi_lines.specs.Stops.{Run}
use Rattle.bidi_play.specs.Lines.{CanBeSaid, line_of, said}
use Rattle.bidi_reduce.specs.Follows.{Follows}
use Rattle.bidi_reduce.specs.Kept.{strike_steps}
use Rattle.bidi_reduce.specs.Strikes.{Strikes}
use Rattle.bidi_remote.specs.Machine.History.{Input, AreHeardAs}
use Rattle.bidi_script_lines.specs.ScriptLines.{Line, CanBeWritten, is_plain, script_line_of}
use Rattle.bidi_script_lines.specs.ScriptPlayers.{SaysALine, SaysNoLine}
use Rattle.bidi_script_lines.specs.ScriptedPlays.{script_said}
use Rattle.bidi_sessions.specs.Limits.{most_steps}
use Rattle.bidi_sessions.specs.Step.{Step}
use Rattle.bidi_run.specs.declared.reducing.ScriptReducer.{ScriptReducer}

-- if there are lines, the first is one of a test
abbrev pub BeginsWithTest : List Line → Type 0
BeginsWithTest [] = ⊤
BeginsWithTest (l ∷ lines) = is_plain l ≡ false

-- The bytes are lines of a play, and after them lines of a scripted play, the first of which is one of a test. The text has those lines of
-- the play that are kept for the session, and after them all other lines.
pub record ReducesScript (s : ℕ) (bytes text : List ℕ) : Type 0 where
  pub steps : List Step
  pub rest : List Line
  pub are : bytes ≡ said steps ++ script_said rest
  pub each : AllByRecursion CanBeSaid steps
  pub all : AllByRecursion CanBeWritten rest
  pub begins : BeginsWithTest rest
  pub kept : List Step
  pub strikes : Strikes s steps kept
  pub left : text ≡ said kept ++ script_said rest

-- Reducing a scripted play as a run over lines, each of which is answered with nothing: it refuses each line that is not one of a scripted
-- play.
abbrev pub reduce_script_run : Run
reduce_script_run = record {
  is_line = IsLine;
  is_next = λ at_end line bytes. HasFirst line bytes;
  refuses = λ at_end bytes. HasLine at_end bytes × LineIs SaysNoLine bytes;
  answers = λ lines text. AllByRecursion SaysALine lines × (text ≡ []);
  is_worn_out = λ lines rest. (length lines ≡ most_steps) × (rest ≢ []);
  most = most_steps;
}

-- the line is one of a test
abbrev pub IsOfTest : List ℕ → Type 0
IsOfTest line = (l : Line) × CanBeWritten l × (line ≡ script_line_of l) × (is_plain l ≡ false)

-- the line stays: it is one of a scripted play, and one of a test if there was none before
abbrev pub MayStay : Bool → List ℕ → Type 0
MayStay is_whole line = (l : Line) × CanBeWritten l × (line ≡ script_line_of l) × (is_whole ≡ false → is_plain l ≡ false)

-- From its first state the reducer has read these lines, kept those that are kept for its session, and written nothing.
pub record HasReducedScript (first reducer : ScriptReducer) (lines : List (List ℕ)) (text : List ℕ) : Type 0 where
  pub steps : List Step
  pub rest : List Line
  pub say : lines ≡ map line_of steps ++ map script_line_of rest
  pub each : AllByRecursion CanBeSaid steps
  pub all : AllByRecursion CanBeWritten rest
  pub begins : BeginsWithTest rest
  -- there was a line of a test exactly if every line stays
  pub plain : reducer.is_whole ≡ false → rest ≡ []
  pub whole : reducer.is_whole ≡ true → rest ≢ []
  pub inputs : List Input
  pub heard : AreHeardAs steps inputs
  pub session : reducer.session ≡ first.session
  pub follows : Follows reducer.end reducer.session inputs
  pub kept : reducer.kept.items ≡ said (strike_steps steps inputs reducer.session) ++ script_said rest
  pub none : text ≡ []

-- a reducer takes lines of a scripted play, and refuses all other lines
abbrev pub script_reducer_answers : AnswersOf ScriptReducer
script_reducer_answers = record {
  has_answered = HasReducedScript;
  refuses = SaysNoLine;
  is_worn_out = λ lines line. most_steps ≤ length lines;
}
