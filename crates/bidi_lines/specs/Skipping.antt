-- Skipping a line that is too long, or the last bytes of an input that have no line feed. Defined by this project.
use Rattle.std.specs.Prelude.{◌≡◌, ◌≢◌, ℕ, ◌-◌, ◌<◌, ◌≤◌, ◌^◌, Bool, true, false, List, [], ◌++◌, length, Option, Result, Ok, Err}
use Rattle.bidi_lines.specs.Devices.{ReadsOn}
use Rattle.bidi_lines.specs.Feeds.{has_feed, ended}
use Rattle.bidi_lines.specs.InputLines.{IsLine, longest_line}
use Rattle.bidi_lines.specs.declared.line_reader.InputFault.{InputFault}
use Rattle.bidi_lines.specs.declared.line_reader.InputFault.TheVariants.{Read, BadLine, NoMemory}
use Rattle.bidi_lines.specs.declared.line_reader.Skipped.{Skipped}
use Rattle.bidi_lines.specs.declared.line_reader.Skipped.TheVariants.{TooLong, TooLongLast, Unended}

-- a line is too long if it has no line feed in it and more bytes than a line can have
pub record IsTooLong (line : List ℕ) : Type 0 where
  pub one_line : has_feed line ≡ false
  pub long : longest_line < length line

-- the bytes begin a line without end: they are 2^64 - 1 or more, and none is a line feed
pub record IsEndless (front : List ℕ) : Type 0 where
  pub one_line : has_feed front ≡ false
  pub long : 2 ^ 64 - 1 ≤ length front

-- nothing is left of the input
abbrev pub IsLast : Bool → List ℕ → Type 0
IsLast at_end held = (at_end ≡ true) × (held ≡ [])

-- the state of the reader after an answer: `gone` are the skipped bytes, `held` those that it holds, and `at_end` says whether the input has ended
abbrev pub skips : Result Skipped InputFault → Bool → List ℕ → List ℕ → Type 0
-- a line that is too long was skipped, with its line feed
skips (Ok TooLong) at_end gone held = (line : List ℕ) × IsTooLong line × (gone ≡ ended line)
-- a line that is too long was skipped; it had no line feed and was the last
skips (Ok TooLongLast) at_end gone held = IsTooLong gone × IsLast at_end held
-- the last line of the input, which has no line feed, was handed out
skips (Ok (Unended last)) at_end gone held = (gone ≡ last.items) × IsLine gone × (gone ≢ []) × IsLast at_end held
-- a beginning of the line was skipped, and no bytes are held
skips (Err Read) at_end gone held = (has_feed gone ≡ false) × (held ≡ [])
-- the beginning of a line without end was skipped
skips (Err BadLine) at_end gone held = IsEndless gone
-- a beginning of the line was skipped
skips (Err NoMemory) at_end gone held = has_feed gone ≡ false

-- the bytes that were held, and those that the source gave, are the skipped bytes and those held now, and P holds of these two
abbrev pub SkipsLine : Option (List ℕ) → Option (List ℕ) → List ℕ → List ℕ → (List ℕ → List ℕ → Type 0) → Type 0
SkipsLine left left' held held' P = (gone : List ℕ) × ReadsOn left left' held (gone ++ held') × P gone held'
