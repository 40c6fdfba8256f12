-- An input that is read line by line; each line ends in one line feed. The form of lines is this project's own.
use Rattle.std.specs.Prelude.{◌≡◌, ◌≢◌, ℕ, suc, ◌<◌, ◌≤◌, ◌⊎◌, Bool, true, false, List, [], length, take, Option, Some, None, Result, Ok, Err, ⊤}
use Rattle.std.specs.List.{flat_map}
use Rattle.std.specs.Global.{Vec}
use Rattle.std.specs.Borrow.{Bor}
use Rattle.bidi_lines.specs.Feeds.{has_feed, ended}
use Rattle.bidi_lines.specs.declared.line_reader.InputFault.{InputFault}
use Rattle.bidi_lines.specs.declared.line_reader.InputFault.TheVariants.{Read, BadLine, NoMemory}

-- the most bytes of a line
abbrev pub longest_line : ℕ
longest_line = 2097152

-- a line has no line feed in it, and it is not too long
pub record IsLine (line : List ℕ) : Type 0 where
  pub one_line : has_feed line ≡ false
  pub short : length line ≤ longest_line

-- the most lines of an input
abbrev pub most_lines : ℕ
most_lines = 1000000000

-- the lines one after the other, each followed by its line feed
abbrev pub joined : List (List ℕ) → List ℕ
joined lines = flat_map ended lines

-- the bytes cannot begin with a line: as many as a line can have, and one more, have no line feed, or the input ends after them without one
pub record BeginsBadly (at_end : Bool) (bytes : List ℕ) : Type 0 where
  pub no_feed : has_feed (take (suc longest_line) bytes) ≡ false
  pub enough : (longest_line < length bytes) ⊎ ((at_end ≡ true) × (bytes ≢ []))

-- the bytes are enough to decide on their first line: it has its line feed, is too long, or is the last of the input and has none
abbrev pub HasLine : Bool → List ℕ → Type 0
HasLine at_end bytes = (has_feed bytes ≡ true) ⊎ ((longest_line < length bytes) ⊎ ((at_end ≡ true) × (bytes ≢ [])))

-- the bytes that an answer hands out: a line with its line feed, or none; `bytes_of` gives the bytes of the line in the answer
abbrev pub given_of : {L : Type 0} → (L → List ℕ) → Result (Option L) InputFault → List ℕ
given_of bytes_of (Ok (Some line)) = ended (bytes_of line)
given_of bytes_of (Ok None) = []
given_of bytes_of (Err fault) = []

-- the state of the reader after an answer: `held` are the bytes that it holds, and `at_end` says whether the input has ended
abbrev pub says_of : {L : Type 0} → (L → List ℕ) → Result (Option L) InputFault → Bool → List ℕ → Type 0
says_of bytes_of (Ok (Some line)) at_end held = IsLine (bytes_of line)
-- the input has ended, and all its bytes were handed out
says_of bytes_of (Ok None) at_end held = (at_end ≡ true) × (held ≡ [])
-- the bytes that the reader holds may be the beginning of a line
says_of bytes_of (Err Read) at_end held = IsLine held
says_of bytes_of (Err BadLine) at_end held = BeginsBadly at_end held
says_of bytes_of (Err NoMemory) at_end held = ⊤

-- the bytes that an answer of the reader returns: a line with its line feed, or none
abbrev pub given : Result (Option (Vec ℕ)) InputFault → List ℕ
given result = given_of (λ line. line.items) result

-- the state of the reader after an answer that returns a line
abbrev pub Says : Result (Option (Vec ℕ)) InputFault → Bool → List ℕ → Type 0
Says result at_end held = says_of (λ line. line.items) result at_end held

-- the bytes that an answer of the reader lends: a line with its line feed, or none
abbrev pub lent : Result (Option (Bor (List ℕ))) InputFault → List ℕ
lent result = given_of (λ line. line.now) result

-- the state of the reader after the loan of a line
abbrev pub SaysLent : Result (Option (Bor (List ℕ))) InputFault → Bool → List ℕ → Type 0
SaysLent result at_end held = says_of (λ line. line.now) result at_end held

-- the number of failed reads of the source: 1 for `Read`, and 0 for other faults
abbrev pub failed_reads : InputFault → ℕ
failed_reads Read = 1
failed_reads fault = 0
