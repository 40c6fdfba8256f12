-- Where a run over the lines of an input stops before its end. The form of lines is this project's own.
use Rattle.std.specs.Prelude.{◌≡◌, ◌≢◌, ℕ, ◌+◌, ◌<◌, ◌≤◌, Bool, List, [], ◌∷◌, ◌++◌, length, ⊤}
use Rattle.std.specs.List.{AllByRecursion}
use Rattle.bidi_lines.specs.InputLines.{joined}
use Rattle.bidi_lines.specs.declared.answering.LinesFault.{LinesFault}
use Rattle.bidi_lines.specs.declared.answering.LinesFault.TheVariants.{Read, Write, BadLine, NoMemory, TooManyLines, WornOut}

-- a run over the lines of an input: which lines it reads, what it answers, and when it takes no more
pub record Run : Type 1 where
  -- this can be a line, without its line feed
  pub is_line : List ℕ → Type 0
  -- these bytes begin with this line; the first argument says whether the input has ended
  pub is_next : Bool → List ℕ → List ℕ → Type 0
  -- these bytes begin with a line that is refused; the first argument says whether the input has ended
  pub refuses : Bool → List ℕ → Type 0
  -- these lines are answered with these bytes
  pub answers : List (List ℕ) → List ℕ → Type 0
  -- after these lines it can take no more, and these bytes are left
  pub is_worn_out : List (List ℕ) → List ℕ → Type 0
  -- the most lines
  pub most : ℕ

-- the bytes are these lines, each with its line feed, followed by this rest; P holds of each line
pub record BeginsWith (P : List ℕ → Type 0) (bytes : List ℕ) (lines : List (List ℕ)) (rest : List ℕ) : Type 0 where
  pub front : bytes ≡ joined lines ++ rest
  pub each : AllByRecursion P lines

-- a beginning of the bytes that were read is at most `most` lines; they are answered with the text, and P holds of them and the rest
abbrev pub Answers : Run → List ℕ → List ℕ → (List (List ℕ) → List ℕ → Type 0) → Type 0
Answers r read text P =
    (lines : List (List ℕ)) × (rest : List ℕ) × BeginsWith r.is_line read lines rest × r.answers lines text × (length lines ≤ r.most) × P lines rest

-- the text is a beginning of the whole, but not all of it
abbrev pub IsCutOff : List ℕ → List ℕ → Type 0
IsCutOff text whole = (left : List ℕ) × (whole ≡ text ++ left) × (left ≢ [])

-- the state of input and output after a fault of a run that answers line by line; `at_end` says whether the input has ended
abbrev pub StopsAt : Run → LinesFault → Bool → List ℕ → List ℕ → Type 0
-- each whole line that was read was answered; the bytes after them may be the beginning of a line
StopsAt r Read at_end read wrote = Answers r read wrote (λ lines rest. r.is_line rest)
-- line n was reached and is refused; all lines before it were answered
StopsAt r (BadLine n) at_end read wrote = Answers r read wrote (λ lines rest. r.refuses at_end rest × (n ≡ length lines + 1))
-- as many lines as allowed were answered, and the input has more bytes
StopsAt r TooManyLines at_end read wrote = Answers r read wrote (λ lines rest. (length lines ≡ r.most) × (rest ≢ []))
-- the run takes no more lines than those that were answered
StopsAt r WornOut at_end read wrote = Answers r read wrote (λ lines rest. r.is_worn_out lines rest)
-- the output holds the answers to some lines at the front of the input
StopsAt r NoMemory at_end read wrote = Answers r read wrote (λ lines rest. ⊤)
-- some lines were answered, and of the answer to the next line a beginning was written, but not all of it
StopsAt r Write at_end read wrote = (text : List ℕ) × (part : List ℕ) × (wrote ≡ text ++ part) × Answers r read text (λ lines rest.
    (line : List ℕ) × (whole : List ℕ) × (length lines < r.most) × r.is_next at_end line rest
    × r.answers (lines ++ line ∷ []) (text ++ whole) × IsCutOff part whole)

-- the state after a fault of a run that writes nothing before it has read all lines; `Writes` relates its input and its output
abbrev pub StopsWhole : Run → (List ℕ → List ℕ → Type 0) → LinesFault → Bool → List ℕ → List ℕ → Type 0
-- all lines were read, and of the output a beginning was written, but not all of it
StopsWhole r Writes Write at_end read wrote = (whole : List ℕ) × Writes read whole × IsCutOff wrote whole
-- any other fault stops it as a run that answers each line with nothing
StopsWhole r Writes fault at_end read wrote = StopsAt r fault at_end read wrote

-- the number of failed reads of the source: 1 for `Read`, and 0 for other faults
abbrev pub failed_reads : LinesFault → ℕ
failed_reads Read = 1
failed_reads fault = 0

-- the number of failed writes of the sink: 1 for `Write`, and 0 for other faults
abbrev pub failed_writes : LinesFault → ℕ
failed_writes Write = 1
failed_writes fault = 0
