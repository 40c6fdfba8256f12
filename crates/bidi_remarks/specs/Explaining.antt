-- What is told of one line, and how it is counted.
use Rattle.std.specs.Prelude.{ℕ, List, Option, Some, None, if◌then◌else◌}
use Rattle.bidi_show.specs.MessageLines.{Refuses}
use Rattle.bidi_lines.specs.declared.side.Side.{Side}
use Rattle.bidi_remarks.specs.Trouble.{Trouble, IsTroubleAt, is_beyond}
use Rattle.bidi_remarks.specs.Texts.{cause_text, told_text}
use Rattle.bidi_remarks.specs.Remark.{Remark, fault, failed, remark_cause, remark_line}
use Rattle.bidi_remarks.specs.declared.texts.Form.{Form}
use Rattle.bidi_remarks.specs.declared.telling.CountedAs.{CountedAs}
use Rattle.bidi_remarks.specs.declared.telling.CountedAs.TheVariants.{Refused, Beyond, Failed}
use Rattle.bidi_remarks.specs.declared.telling.Told.{Told}

-- the text that is written, the cause, and how the line is counted
abbrev pub Telling : Type 0
Telling = List ℕ × List ℕ × CountedAs

-- what the code reports of a line
abbrev pub told_of : Told → Telling
told_of t = (t.text.items, t.cause.items, t.counted_as)

-- a line with a trouble is counted as beyond the profile if the trouble is, and else as refused
abbrev pub counted_as : Trouble → CountedAs
counted_as x = if is_beyond x then Beyond else Refused

-- what is told of the line of this number, a text of this end, that has this trouble
abbrev pub telling : Form → Side → ℕ → Trouble → Telling
telling form side n x = (told_text form n (Some side) None x, cause_text x, counted_as x)

-- Of a line that `check` takes nothing is told, and of one that it refuses what is wrong with it.
pub data Explains (form : Form) (side : Side) (n : ℕ) (line : List ℕ) : Option Telling → Type 0 where
  is_taken : Refuses side line None → Explains form side n line None
  is_refused : (why : List ℕ) (x : Trouble) → Refuses side line (Some why) → IsTroubleAt side n line x
      → Explains form side n line (Some (telling form side n x))

-- a remark on a fault is counted as its trouble, and that a command failed is counted apart
abbrev pub remark_counted_as : Remark → CountedAs
remark_counted_as (fault side answers brief why) = counted_as why
remark_counted_as (failed id method code) = Failed

-- what is told of a remark on the line of this number, in brief where no form is given
abbrev pub remark_telling : Option Form → ℕ → Remark → Telling
remark_telling form n r = (remark_line form n r, remark_cause r, remark_counted_as r)
