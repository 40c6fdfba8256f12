-- The answers to the lines of an input, and why not all lines are answered. The form of lines is this project's own.
use Rattle.std.specs.Prelude.{◌≡◌, ℕ, ◌<◌, ◌≤◌, List, [], ◌++◌, length}
use Rattle.bidi_lines.specs.Feeds.{ended}
use Rattle.bidi_lines.specs.InputLines.{IsLine, HasLine}
use Rattle.bidi_lines.specs.Stops.{BeginsWith, Run}
use Rattle.bidi_lines.specs.declared.line_reader.InputFault.{InputFault}
use Rattle.bidi_lines.specs.declared.line_reader.InputFault.TheVariants as input
use Rattle.bidi_lines.specs.declared.answering.LinesFault.{LinesFault}
use Rattle.bidi_lines.specs.declared.answering.LinesFault.TheVariants.{Read, BadLine, NoMemory, WornOut}
use Rattle.bidi_lines.specs.declared.answering.AnswerFault.{AnswerFault}
use Rattle.bidi_lines.specs.declared.answering.AnswerFault.TheVariants as answer

-- the specification of an answerer: its answers so far, which lines it refuses, and when it takes no more lines
pub record AnswersOf (T : Type 0) : Type 1 where
  -- between these two states it has answered these lines with these bytes
  pub has_answered : T → T → List (List ℕ) → List ℕ → Type 0
  -- it refuses this line
  pub refuses : List ℕ → Type 0
  -- after these lines it does not take this one, because it has answered as many as it can
  pub is_worn_out : List (List ℕ) → List ℕ → Type 0

-- the bytes begin with this line and its line feed
abbrev pub HasFirst : List ℕ → List ℕ → Type 0
HasFirst line bytes = IsLine line × ((more : List ℕ) × (bytes ≡ ended line ++ more))

-- if the bytes begin with a whole line, that line has the property P
abbrev pub LineIs : (List ℕ → Type 0) → List ℕ → Type 0
LineIs P bytes = (line : List ℕ) (more : List ℕ) → IsLine line → bytes ≡ ended line ++ more → P line

-- all bytes that were read are whole lines, at most `most` of them, and the answers to these were written
abbrev pub AnswersAll : (List (List ℕ) → List ℕ → Type 0) → ℕ → List ℕ → List ℕ → Type 0
AnswersAll has_answered most read wrote = (lines : List (List ℕ)) × BeginsWith IsLine read lines [] × has_answered lines wrote × (length lines ≤ most)

-- the run in which an answerer, from its first state, answers at most `most` lines
abbrev pub run_of : {T : Type 0} → AnswersOf T → T → ℕ → Run
run_of {T} a first most = record {
  is_line = IsLine;
  is_next = λ at_end line bytes. HasFirst line bytes;
  refuses = λ at_end bytes. HasLine at_end bytes × LineIs a.refuses bytes;
  answers = λ lines text. (t : T) × a.has_answered first t lines text;
  is_worn_out = λ lines rest. (length lines < most) × ((line : List ℕ) × HasFirst line rest × a.is_worn_out lines line);
  most = most;
}

-- the fault of a run over lines for a fault of its input at line n
abbrev pub lines_fault_of : InputFault → ℕ → LinesFault
lines_fault_of input.Read n = Read
lines_fault_of input.BadLine n = BadLine n
lines_fault_of input.NoMemory n = NoMemory

-- the fault of a run over lines for a fault of its answerer
abbrev pub answer_fault_of : AnswerFault → LinesFault
answer_fault_of answer.NoMemory = NoMemory
answer_fault_of answer.WornOut = WornOut
