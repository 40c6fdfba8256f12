-- How a host takes its inputs: each as the line of a scripted play. Defined by this project.
use Rattle.std.specs.Prelude.{◌≡◌, true, ℕ, List, [], ◌∷◌, ◌++◌, string_bytes}
use Rattle.bidi_messages.specs.Verdict.{Verdict, IsVerdict}
use Rattle.bidi_sessions.specs.Step.{Step, Text}
use Rattle.bidi_remote.specs.Machine.History.{Input, IsHeardAs}
use Rattle.bidi_remote.specs.Machine.Sent.{out}
use Rattle.bidi_remote.specs.State.Stands.{StandsFor}
use Rattle.bidi_play.specs.Lines.{CanBeSaid, written}
use Rattle.bidi_scripted.specs.Script.{no_script}
use Rattle.bidi_scripted.specs.View.{script_of}
use Rattle.bidi_scripted.specs.declared.scripted_end.ScriptedEnd.{ScriptedEnd}
use Rattle.bidi_script_lines.specs.Outcomes.{outcome_of, outcome_text}
use Rattle.bidi_script_lines.specs.Performing.{Brings}
use Rattle.bidi_script_lines.specs.ScriptLines.{Line, Plain, script_line_of, CanBeWritten}
use Rattle.bidi_script_lines.specs.ScriptPlayers.{HasPlayedScript}
use Rattle.bidi_recorder.specs.RowCommands.{command_for_rows}
use Rattle.bidi_recorder.specs.PageLines.{is_said_by_pages}
use Rattle.bidi_recorder.specs.declared.host.Recorded.{Recorded}

-- Over an empty script, the step was handed on as it came: what is written for it is the lines of what the machine sends, whatever the
-- history, and the script stays empty.
abbrev pub IsHandedOn : Step → ScriptedEnd → ScriptedEnd → Recorded → Type 0
IsHandedOn step old new taken =
    (script_of new.script ≡ no_script) × ((i : Input) × IsHeardAs step i
    × ((h : List Input) → StandsFor old.end h → (outcome_text no_script (outcome_of taken.outcome) ≡ written (out h i)) × StandsFor new.end (i ∷ h)))

-- The line was taken: it is returned, with what it brings about. If the end had played some lines, it has now played this one as well, and
-- what is written for all of them is what a scripted play of them writes.
pub record IsTaken (l : Line) (old new : ScriptedEnd) (taken : Recorded) : Type 0 where
  pub line : string_bytes taken.line ≡ script_line_of l
  pub said : CanBeWritten l
  pub brings : (h : List Input) → StandsFor old.end h → Brings l h old new (outcome_of taken.outcome)
  pub plain : (step : Step) → l ≡ Plain step → script_of old.script ≡ no_script → IsHandedOn step old new taken
  pub plays : (lines : List (List ℕ)) (text : List ℕ) → HasPlayedScript old lines text
      → HasPlayedScript new (lines ++ string_bytes taken.line ∷ []) (text ++ outcome_text (script_of new.script) (outcome_of taken.outcome))

-- nothing was taken: the script is as it was, the end stands for the same histories, and has played the same lines
pub record Stays (old new : ScriptedEnd) : Type 0 where
  pub script : script_of new.script ≡ script_of old.script
  pub stands : (h : List Input) → StandsFor old.end h → StandsFor new.end h
  pub plays : (lines : List (List ℕ)) (text : List ℕ) → HasPlayedScript old lines text → HasPlayedScript new lines text

-- a text is recorded unchanged if a line can hold it, and otherwise as one with the same verdict and the same command for rows
-- example: a text of two lines is recorded with a carriage return in place of the line feed
pub record IsSaidAs (conn : ℕ) (text said : List ℕ) : Type 0 where
  pub itself : CanBeSaid (Text conn text) → said ≡ text
  pub verdict : (v : Verdict) → IsVerdict text v → IsVerdict said v
  pub command : command_for_rows said ≡ command_for_rows text

-- the line is not one that a page may say
abbrev pub SaysNoPageLine : List ℕ → Type 0
SaysNoPageLine line = (l : Line) → CanBeWritten l → is_said_by_pages l ≡ true → line ≡ script_line_of l → ⊥
