-- What is written for the lines of an input, and why it may stop before its end.
use Rattle.std.specs.Prelude.{◌≡◌, ◌≢◌, ℕ, ◌+◌, ◌≤◌, ◌&&◌, Bool, true, false, List, [], ◌∷◌, ◌++◌, length, Option, Some, None, if◌then◌else◌}
use Rattle.std.specs.Io.KnownBytes.{Appends}
use Rattle.bidi_lines.specs.Devices.{AppendsBeginning}
use Rattle.bidi_lines.specs.Feeds.{has_feed, ended}
use Rattle.bidi_lines.specs.InputLines.{IsLine, most_lines}
use Rattle.bidi_lines.specs.Skipping.{IsEndless, IsTooLong}
use Rattle.bidi_lines.specs.Stops.{BeginsWith, Run}
use Rattle.bidi_lines.specs.declared.answering.LinesFault.{LinesFault}
use Rattle.bidi_lines.specs.declared.answering.LinesFault.TheVariants.{Write, NoMemory}
use Rattle.bidi_lines.specs.declared.side.Side.{Side}
use Rattle.bidi_remarks.specs.Trouble.{bad}
use Rattle.bidi_remarks.specs.Explaining.{Explains, Telling, telling}
use Rattle.bidi_why.specs.Input.{IsOf}
use Rattle.bidi_why.specs.Summary.{Entry, IsSum, entries_in, is_same}
use Rattle.bidi_remarks.specs.declared.bad_text.BadText.TheVariants.{TooLong}
use Rattle.bidi_remarks.specs.declared.telling.CountedAs.TheVariants.{Beyond}
use Rattle.bidi_why.specs.declared.next_line.Line.{Line}
use Rattle.bidi_why.specs.declared.sum.Sum.{Sum}
use Rattle.bidi_remarks.specs.declared.texts.Form.{Form}

-- the text, where there is one
abbrev pub written : Option Telling → List ℕ
written None = []
written (Some t) = t.0

-- what is told where only the profile is asked for: nothing of what is wrong for the profile and not for the draft
abbrev pub kept : Bool → Option Telling → Option Telling
kept only None = None
kept only (Some t) = if only && is_same Beyond t.2 then None else Some t

-- This is told of the line of this number, of the profile alone or not.
pub data Tells (form : Form) (side : Side) (only : Bool) (n : ℕ) (line : List ℕ) : Option Telling → Type 0 where
  is_line : (o : Option Telling) → IsLine line → Explains form side n line o → Tells form side only n line (kept only o)
  is_too_long : IsTooLong line → Tells form side only n line (Some (telling form side n (bad TooLong)))

-- this is written for the lines, the first of which has this number, and so they are counted
abbrev pub TellsEach : Form → Side → Bool → ℕ → List (List ℕ) → List ℕ → List Entry → Type 0
TellsEach form side only n [] wrote told = (wrote ≡ []) × (told ≡ [])
TellsEach form side only n (line ∷ lines) wrote told =
    (o : Option Telling) × (more : List ℕ) × (rest : List Entry) × Tells form side only n line o × TellsEach form side only (n + 1) lines more rest
    × (wrote ≡ written o ++ more) × (told ≡ entries_in line o ++ rest)

-- this is written for the lines
abbrev pub TellsLines : Form → Side → Bool → List (List ℕ) → List ℕ → Type 0
TellsLines form side only lines wrote = (told : List Entry) × TellsEach form side only 1 lines wrote told

-- no line feed stands in the line
abbrev pub IsOneLine : List ℕ → Type 0
IsOneLine line = has_feed line ≡ false

-- the last line of an input, where bytes stand behind its last line feed
abbrev pub last_line : List ℕ → List (List ℕ)
last_line [] = []
last_line (b ∷ bytes) = (b ∷ bytes) ∷ []

-- the bytes are lines, and this holds of them and of what was written
abbrev pub Whole : (List (List ℕ) → List ℕ → Type 0) → List ℕ → List ℕ → Type 0
Whole P bytes wrote = (lines : List (List ℕ)) × (last : List ℕ) × BeginsWith IsOneLine bytes lines last × IsOneLine last × P (lines ++ last_line last) wrote

-- the bytes are lines, and this is written for them
abbrev pub TellsAll : Form → Side → Bool → List ℕ → List ℕ → Type 0
TellsAll form side only bytes wrote = Whole (TellsLines form side only) bytes wrote

-- the same, and the fact holds of how many lines there are and of how they are counted
abbrev pub TellsCounted : Form → Side → Bool → (ℕ → List Entry → Type 0) → List ℕ → List ℕ → Type 0
TellsCounted form side only P bytes wrote = Whole (λ lines text. (told : List Entry) × TellsEach form side only 1 lines text told × P (length lines) told) bytes wrote

-- The bytes begin with this line: it has its line feed, or it is the last of the input, and all of them.
pub data IsNext (at_end : Bool) (line : List ℕ) (bytes : List ℕ) : Type 0 where
  is_ended : (more : List ℕ) → IsOneLine line → bytes ≡ ended line ++ more → IsNext at_end line bytes
  is_last : IsOneLine line → line ≢ [] → at_end ≡ true → bytes ≡ line → IsNext at_end line bytes

-- the bytes begin with a line without end
abbrev pub HasEndless : List ℕ → Type 0
HasEndless bytes = (front : List ℕ) × (more : List ℕ) × (bytes ≡ front ++ more) × IsEndless front

-- a report on lines as a run over lines of any length, the last of which may have no line feed: it refuses only a line without end
abbrev pub report_run : (List (List ℕ) → List ℕ → Type 0) → Run
report_run P = record {
  is_line = IsOneLine;
  is_next = λ at_end line bytes. IsNext at_end line bytes;
  refuses = λ at_end bytes. HasEndless bytes;
  answers = P;
  is_worn_out = λ lines rest. ⊥;
  most = most_lines;
}

-- since the first of its states something has told of these lines by this text
abbrev pub SoFar : {T : Type 0} → (T → T → List (List ℕ) → List ℕ → List Entry → Type 0) → T → List (List ℕ) → List ℕ → Type 0
SoFar {T} has_told first lines text = (t : T) × (told : List Entry) × has_told first t lines text told

-- since the first of these states something has told of these lines, of which there are not too many, by this text, of each at most once, and the sum
-- is that of what was told
abbrev pub Sums : {T : Type 0} → (T → T → List (List ℕ) → List ℕ → List Entry → Type 0) → T → T → Sum → List (List ℕ) → List ℕ → Type 0
Sums {T} has_told first now sum lines text =
    (told : List Entry) × has_told first now lines text told × IsSum sum (length lines) told × (length told ≤ length lines) × (length lines ≤ most_lines)

-- With this text something tells of one line more, from one of its states to another: since any first state it has told of that one too, and it is in the sum.
abbrev pub TellsNext : {T : Type 0} → (T → T → List (List ℕ) → List ℕ → List Entry → Type 0) → T → T → Sum → Sum → Line → List ℕ → Type 0
TellsNext {T} has_told old new sum sum' line text =
    (first : T) (lines : List (List ℕ)) (before : List ℕ) (is : List ℕ) → Sums has_told first old sum lines before → IsOf line is
    → Sums has_told first new sum' (lines ++ is ∷ []) (before ++ text)

-- What a fault at a line says of what a sink held and holds, where this holds of the text for the line.
abbrev pub StopsLine : (List ℕ → Type 0) → LinesFault → Option (List ℕ) → Option (List ℕ) → Type 0
-- a beginning of the text was written, and not all
StopsLine P Write held held' = (text : List ℕ) × P text × AppendsBeginning held held' text
-- nothing was written
StopsLine P NoMemory held held' = Appends held held' []
StopsLine P fault held held' = ⊥
