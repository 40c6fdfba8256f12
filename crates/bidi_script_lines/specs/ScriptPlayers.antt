-- A scripted end that answers the lines of a scripted play one by one. Defined by this project.
use Rattle.std.specs.Prelude.{◌≡◌, ℕ, true, List, map, Ok}
use Rattle.std.specs.List.{AllByRecursion}
use Rattle.bidi_lines.specs.Answering.{AnswersOf}
use Rattle.bidi_play.specs.Lines.{line_of, CanBeSaid}
use Rattle.bidi_play.specs.Players.{HasPlayed}
use Rattle.bidi_sessions.specs.Step.{Step}
use Rattle.bidi_remote.specs.Machine.History.{Input}
use Rattle.bidi_remote.specs.State.Stands.{StandsFor}
use Rattle.bidi_scripted.specs.Script.{no_script}
use Rattle.bidi_scripted.specs.View.{script_of}
use Rattle.bidi_scripted.specs.declared.scripted_end.ScriptedEnd.{ScriptedEnd}
use Rattle.bidi_script_lines.specs.Outcomes.{outcome_of}
use Rattle.bidi_script_lines.specs.Performing.{Brings, TakesStep}
use Rattle.bidi_script_lines.specs.InOrder.{Performs, IsSpent}
use Rattle.bidi_script_lines.specs.ScriptLines.{Line, Plain, is_plain, script_line_of, CanBeWritten}
use Rattle.bidi_script_lines.specs.declared.outcome.Outcome.{Outcome}
use Rattle.bidi_script_lines.specs.declared.scripted_play.ScriptPlayer.{ScriptPlayer}

-- the line is one of a scripted play
abbrev pub SaysALine : List ℕ → Type 0
SaysALine line = (l : Line) × CanBeWritten l × (line ≡ script_line_of l)

-- the line is not one of a scripted play
abbrev pub SaysNoLine : List ℕ → Type 0
SaysNoLine line = (l : Line) → CanBeWritten l → line ≡ script_line_of l → ⊥

-- The line is this one of a scripted play, and if it is a line of a play, it is read as that.
pub record IsSaid (line : List ℕ) (said : Line) : Type 0 where
  pub says : line ≡ script_line_of said
  pub can : CanBeWritten said
  pub plain : (s : Step) → CanBeSaid s → line ≡ line_of s → is_plain said ≡ true

-- The line is one of a scripted play, and this is what it brings about, whatever the history. With an empty script, a step is taken as the
-- remote end takes it.
pub record IsPerformed (line : List ℕ) (old new : ScriptedEnd) (o : Outcome) : Type 0 where
  pub said : Line
  pub is : IsSaid line said
  pub brings : (h : List Input) → StandsFor old.end h → Brings said h old new (outcome_of o)
  pub takes : (s : Step) → said ≡ Plain s → script_of old.script ≡ no_script → TakesStep s old new (Ok o) × (script_of new.script ≡ no_script)

-- The end has taken these lines, and the text is what is written for them, one after another. If all of them are lines of a play, it is
-- what a play writes.
pub record HasPlayedScript (end : ScriptedEnd) (lines : List (List ℕ)) (text : List ℕ) : Type 0 where
  pub said : List Line
  pub say : lines ≡ map script_line_of said
  pub each : AllByRecursion CanBeWritten said
  pub inputs : List Input
  pub performs : Performs said inputs (script_of end.script) text
  pub stands : StandsFor end.end inputs
  pub plain : (steps : List Step) → lines ≡ map line_of steps → AllByRecursion CanBeSaid steps
      → HasPlayed end.end lines text × (script_of end.script ≡ no_script)

-- the answers of a scripted end: it answers the lines of scripted plays and refuses all others, until the remote end accepts no more inputs
abbrev pub script_player_answers : AnswersOf ScriptPlayer
script_player_answers = record {
  has_answered = λ first player lines text. HasPlayedScript player.end lines text;
  refuses = SaysNoLine;
  is_worn_out = λ lines line. SaysALine line × IsSpent lines;
}
