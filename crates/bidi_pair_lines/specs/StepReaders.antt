-- A reader of lines as steps of both ends. Defined by this project.
use Rattle.std.specs.Prelude.{◌≡◌, ℕ, List, []}
use Rattle.bidi_ledger.specs.Steps.{AreWell}
use Rattle.bidi_lines.specs.Answering.{AnswersOf}
use Rattle.bidi_pair_lines.specs.PairLines.{SaysNoStep}
use Rattle.bidi_pair_lines.specs.Pairs.{AllSay}
use Rattle.bidi_pair_lines.specs.declared.reading.StepReader.{StepReader}

-- the reader holds the steps of these lines, whose commands are valid, and has answered nothing
pub record HasRead (first : StepReader) (reader : StepReader) (lines : List (List ℕ)) (text : List ℕ) : Type 0 where
  pub say : AllSay lines reader.steps.items
  pub well : AreWell reader.steps.items
  pub none : text ≡ []

-- the answers of a reader of steps: it takes any number of pair lines, and refuses all other lines
abbrev pub reader_answers : AnswersOf StepReader
reader_answers = record {
  has_answered = HasRead;
  refuses = SaysNoStep;
  is_worn_out = λ lines line. ⊥;
}
