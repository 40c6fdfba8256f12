-- What is written for the lines of a scripted play, one after another. Defined by this project.
use Rattle.std.specs.Prelude.{◌≡◌, ◌⊎◌, ℕ, List, [], ◌∷◌, ◌++◌, length, map}
use Rattle.bidi_sessions.specs.Limits.{most_steps}
use Rattle.bidi_remote.specs.Machine.History.{Input}
use Rattle.bidi_remote.specs.State.Stands.{StandsFor, IsShort}
use Rattle.bidi_scripted.specs.Script.{Script, no_script}
use Rattle.bidi_scripted.specs.View.{script_of}
use Rattle.bidi_scripted.specs.declared.scripted_end.ScriptedEnd.{ScriptedEnd}
use Rattle.bidi_script_lines.specs.Outcomes.{Outcome, outcome_text}
use Rattle.bidi_script_lines.specs.Performing.{Brings}
use Rattle.bidi_script_lines.specs.ScriptLines.{Line, script_line_of}

-- The history after a line is that before it, or has one input more, which the remote end still accepted.
abbrev pub Continues : List Input → List Input → Type 0
Continues before after = (after ≡ before) ⊎ ((i : Input) × (after ≡ i ∷ before) × IsShort before)

-- These lines were performed in order, from the start on. The remote end accepted these inputs, the newest first, the script is now this one,
-- and this text is written.
pub data Performs : List Line → List Input → Script → List ℕ → Type 0 where
  -- at the start there is no line, no input and no script
  nothing : Performs [] [] no_script []
  -- one line more brings about what the definition says, and the lines for that are written after all others
  one_more : (lines : List Line) (before after : List Input) (old new : ScriptedEnd) (text : List ℕ) (l : Line) (o : Outcome)
      → Performs lines before (script_of old.script) text → StandsFor old.end before
      → Brings l before old new o → Continues before after → StandsFor new.end after
      → Performs (lines ++ l ∷ []) after (script_of new.script) (text ++ outcome_text (script_of new.script) o)

-- The text is what is written for these lines, one after another.
abbrev pub IsWrittenFor : List Line → List ℕ → Type 0
IsWrittenFor lines text = (inputs : List Input) × (script : Script) × Performs lines inputs script text

-- With these lines the remote end has accepted as many inputs as it can.
pub record IsSpent (lines : List (List ℕ)) : Type 0 where
  pub said : List Line
  pub say : lines ≡ map script_line_of said
  pub inputs : List Input
  pub script : Script
  pub text : List ℕ
  pub performs : Performs said inputs script text
  pub all : length inputs ≡ most_steps
