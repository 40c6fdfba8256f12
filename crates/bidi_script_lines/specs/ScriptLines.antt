-- The lines of a scripted play: those of a play, and those by which a test answers, holds, sends and cuts. Their forms are this project's own.
use Rattle.std.specs.Prelude.{◌≡◌, ⊤, ℕ, ◌≤◌, ◌==◌, List, [], ◌∷◌, Bool, true, ◌++◌, length, codes, decimal, IsUtf8, false}
use Rattle.std.specs.List.{list_any}
use Rattle.bidi_lines.specs.Feeds.{has_feed}
use Rattle.bidi_lines.specs.InputLines.{longest_line}
use Rattle.bidi_sessions.specs.Step.{Step}
use Rattle.bidi_tree.specs.Number.{IsJsUint}
use Rattle.bidi_play.specs.Lines.{line_of, IsSayable}

-- A line of a scripted play. JSON in it is not yet read.
pub data Line : Type 0 where
  Plain : (step : Step) → Line
  Answer : (row : List ℕ) → Line
  Hold : (row : List ℕ) → Line
  Release : (number : ℕ) → Line
  ReleaseWith : (number : ℕ) (row : List ℕ) → Line
  Unanswer : (method : List ℕ) → Line
  Emit : (event : List ℕ) → Line
  On : (method : List ℕ) (events : List ℕ) → Line
  Names : (names : List ℕ) → Line
  Send : (conn : ℕ) (text : List ℕ) → Line
  Bytes : (conn : ℕ) (digits : List ℕ) → Line
  Raw : (conn : ℕ) (digits : List ℕ) → Line
  Stall : (conn : ℕ) → Line
  Resume : (conn : ℕ) → Line
  Cut : (conn : ℕ) → Line
  CutAfter : (conn : ℕ) (bytes : ℕ) → Line
  Close : (conn : ℕ) (code : ℕ) → Line
  Refuse : (number : ℕ) (code : ℕ) → Line

-- whether it is a line of a play
abbrev pub is_plain : Line → Bool
is_plain (Plain step) = true
is_plain l = false

-- the first word of a line that is not one of a play
abbrev pub word_of : Line → List ℕ
word_of (Plain step) = []
word_of (Answer row) = codes "answer"
word_of (Hold row) = codes "hold"
word_of (Release number) = codes "release"
word_of (ReleaseWith number row) = codes "release"
word_of (Unanswer method) = codes "unanswer"
word_of (Emit event) = codes "emit"
word_of (On method events) = codes "on"
word_of (Names names) = codes "names"
word_of (Send c text) = codes "send"
word_of (Bytes c digits) = codes "bytes"
word_of (Raw c digits) = codes "raw"
word_of (Stall c) = codes "stall"
word_of (Resume c) = codes "resume"
word_of (Cut c) = codes "cut"
word_of (CutAfter c bytes) = codes "cut"
word_of (Close c code) = codes "close"
word_of (Refuse n code) = codes "refuse"

-- what follows that word and a space
abbrev pub rest_of : Line → List ℕ
rest_of (Plain step) = []
rest_of (Answer row) = row
rest_of (Hold row) = row
rest_of (Release number) = decimal number
rest_of (ReleaseWith number row) = decimal number ++ 32 ∷ row
rest_of (Unanswer method) = method
rest_of (Emit event) = event
rest_of (On method events) = method ++ 32 ∷ events
rest_of (Names names) = names
rest_of (Send c text) = decimal c ++ 32 ∷ text
rest_of (Bytes c digits) = decimal c ++ 32 ∷ digits
rest_of (Raw c digits) = decimal c ++ 32 ∷ digits
rest_of (Stall c) = decimal c
rest_of (Resume c) = decimal c
rest_of (Cut c) = decimal c
rest_of (CutAfter c bytes) = decimal c ++ 32 ∷ decimal bytes
rest_of (Close c code) = decimal c ++ 32 ∷ decimal code
rest_of (Refuse n code) = decimal n ++ 32 ∷ decimal code

-- the line as it is written, without its line feed
-- example: `release 1`
abbrev pub script_line_of : Line → List ℕ
script_line_of (Plain step) = line_of step
script_line_of l = word_of l ++ 32 ∷ rest_of l

-- a string without spaces
abbrev pub IsWord : List ℕ → Type 0
IsWord word = list_any (λ b. b == 32) word ≡ false

-- the fields of the line fit on it: numbers are js-uints, the method that events follow has no space, and a step is one of a play
abbrev pub IsWritable : Line → Type 0
IsWritable (Plain step) = IsSayable step
IsWritable (Answer row) = ⊤
IsWritable (Hold row) = ⊤
IsWritable (Release number) = IsJsUint number
IsWritable (ReleaseWith number row) = IsJsUint number
IsWritable (Unanswer method) = ⊤
IsWritable (Emit event) = ⊤
IsWritable (On method events) = IsWord method
IsWritable (Names names) = ⊤
IsWritable (Send c text) = IsJsUint c
IsWritable (Bytes c digits) = IsJsUint c
IsWritable (Raw c digits) = IsJsUint c
IsWritable (Stall c) = IsJsUint c
IsWritable (Resume c) = IsJsUint c
IsWritable (Cut c) = IsJsUint c
IsWritable (CutAfter c bytes) = IsJsUint c × IsJsUint bytes
IsWritable (Close c code) = IsJsUint c × IsJsUint code
IsWritable (Refuse n code) = IsJsUint n × IsJsUint code

-- a scripted play can have this line: its fields fit, and it is UTF-8 without a line feed and has at most 2,097,152 bytes
pub record CanBeWritten (l : Line) : Type 0 where
  pub parts : IsWritable l
  pub utf8 : IsUtf8 (script_line_of l)
  pub one_line : has_feed (script_line_of l) ≡ false
  pub short : length (script_line_of l) ≤ longest_line
