-- An input of lines of any length, the last of which may have no line feed.
use Rattle.std.specs.Prelude.{◌≡◌, ◌≢◌, ℕ, ◌++◌, Bool, false, List, [], Result, Ok, Err}
use Rattle.bidi_lines.specs.Feeds.{has_feed, ended}
use Rattle.bidi_lines.specs.InputLines.{IsLine}
use Rattle.bidi_lines.specs.Skipping.{IsEndless, IsLast, IsTooLong}
use Rattle.bidi_lines.specs.declared.line_reader.InputFault.{InputFault}
use Rattle.bidi_lines.specs.declared.line_reader.InputFault.TheVariants.{Read, BadLine, NoMemory}
use Rattle.bidi_lines.specs.declared.line_reader.Skipped.{Skipped}
use Rattle.bidi_lines.specs.declared.line_reader.Skipped.TheVariants as skipped
use Rattle.bidi_why.specs.declared.next_line.Line.{Line}
use Rattle.bidi_why.specs.declared.next_line.Line.TheVariants as line
use Rattle.bidi_why.specs.declared.next_line.Found as found
use Rattle.bidi_why.specs.declared.next_line.Found.TheVariants.{End, Last}
use Rattle.bidi_why.specs.declared.next_line.Found.TheVariants as next

-- the bytes are this line
abbrev pub IsOf : Line → List ℕ → Type 0
IsOf (line.Text text) bytes = (bytes ≡ text.items) × IsLine bytes
IsOf line.TooLong bytes = IsTooLong bytes

-- What an answer says of the bytes that are gone, and of those that are held, the last of the input or not.
abbrev pub finds : Result found.Found InputFault → Bool → List ℕ → List ℕ → Type 0
-- a line is gone, with its line feed
finds (Ok (next.Line l)) at_end gone held = (bytes : List ℕ) × IsOf l bytes × (gone ≡ ended bytes)
-- or without one, as the last
finds (Ok (Last l)) at_end gone held = IsOf l gone × (gone ≢ []) × IsLast at_end held
-- nothing is left
finds (Ok End) at_end gone held = (gone ≡ []) × IsLast at_end held
-- no whole line was read
finds (Err Read) at_end gone held = has_feed (gone ++ held) ≡ false
-- the beginning of an endless line is gone
finds (Err BadLine) at_end gone held = IsEndless gone
-- no whole line is gone
finds (Err NoMemory) at_end gone held = has_feed gone ≡ false

-- what comes next, where a line was skipped
abbrev pub found_of : Result Skipped InputFault → Result found.Found InputFault
found_of (Ok skipped.TooLong) = Ok (next.Line line.TooLong)
found_of (Ok skipped.TooLongLast) = Ok (Last line.TooLong)
found_of (Ok (skipped.Unended text)) = Ok (Last (line.Text text))
found_of (Err fault) = Err fault
