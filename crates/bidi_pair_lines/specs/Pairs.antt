-- The output of `pair` for its input, and the reasons to stop early. Defined by this project.
use Rattle.std.specs.Prelude.{◌≡◌, ℕ, ◌≤◌, List, [], ◌∷◌, length, take, Option, ⊤}
use Rattle.std.specs.List.{AllByRecursion}
use Rattle.std.specs.Io.KnownBytes.{Consumes}
use Rattle.bidi_sessions.specs.Limits.{most_steps}
use Rattle.bidi_ledger.specs.declared.pair_step.PairStep.{PairStep}
use Rattle.bidi_ledger.specs.Ledger.{PairInput, past_after, ledger}
use Rattle.bidi_ledger.specs.Pairing.{history}
use Rattle.bidi_ledger.specs.Steps.{AreHeardAs}
use Rattle.bidi_lines.specs.Answering.{HasFirst, LineIs}
use Rattle.bidi_lines.specs.InputLines.{IsLine, HasLine, joined, most_lines}
use Rattle.bidi_lines.specs.Stops.{Run}
use Rattle.bidi_pair_lines.specs.PairLines.{IsPairLine, SaysNoStep, ledger_text}

-- each line is that of the step at the same place
abbrev pub AllSay : List (List ℕ) → List PairStep → Type 0
AllSay [] [] = ⊤
AllSay [] (x ∷ steps) = ⊥
AllSay (line ∷ lines) [] = ⊥
AllSay (line ∷ lines) (x ∷ steps) = IsPairLine line x × AllSay lines steps

-- the bytes are the lines of these steps, each with its line feed
pub record Schedule (bytes : List ℕ) (steps : List PairStep) : Type 0 where
  pub lines : List (List ℕ)
  pub whole : bytes ≡ joined lines
  pub each : AllByRecursion IsLine lines
  pub say : AllSay lines steps
  pub few : length lines ≤ most_lines

-- the bytes are pair lines only, and the text has the lines of the ledger of their steps
abbrev pub PairsAll : List ℕ → List ℕ → Type 0
PairsAll bytes text =
    (steps : List PairStep) × (inputs : List PairInput) × Schedule bytes steps × AreHeardAs steps inputs × (text ≡ ledger_text (ledger inputs))

-- the remote end has taken as many inputs as it takes from the first steps of these lines
abbrev pub AreTooMany : List (List ℕ) → Type 0
AreTooMany lines = (steps : List PairStep) × (n : ℕ) × (inputs : List PairInput) × AllSay lines steps × AreHeardAs (take n steps) inputs
    × (most_steps ≤ length (history (past_after [] inputs)))

-- `pair` as a run over lines, each of which is answered with nothing: it refuses each line that is not a pair line
abbrev pub pair_run : Run
pair_run = record {
  is_line = IsLine;
  is_next = λ at_end line bytes. HasFirst line bytes;
  refuses = λ at_end bytes. HasLine at_end bytes × LineIs SaysNoStep bytes;
  answers = λ lines text. ((steps : List PairStep) × AllSay lines steps) × (text ≡ []);
  is_worn_out = λ lines rest. (rest ≡ []) × AreTooMany lines;
  most = most_lines;
}

-- some bytes were read from a source, so far as its bytes are known, and P holds of them
abbrev pub Reads : Option (List ℕ) → Option (List ℕ) → (List ℕ → Type 0) → Type 0
Reads left left' P = (read : List ℕ) × Consumes left left' read × P read
