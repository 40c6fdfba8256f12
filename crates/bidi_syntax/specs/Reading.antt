-- A JSON text that is read byte by byte. After RFC 8259.
use Rattle.std.specs.Prelude.{ℕ, ◌+◌, ◌-◌, max, Bool, true, false, ◌&&◌, ◌==◌, if◌then◌else◌, List, [], ◌∷◌, ◌++◌, length, take, slice_get}
use Rattle.std.specs.Prelude.{Option, Some, None, option_map, Result, Ok, Err}
use Rattle.bidi_syntax.specs.Grammar.{is_ended, turn_of}
use Rattle.bidi_syntax.specs.declared.place.Container.{Container}
use Rattle.bidi_syntax.specs.declared.place.Container.TheVariants.{Array, Object}
use Rattle.bidi_syntax.specs.declared.place.Place.{Place}
use Rattle.bidi_syntax.specs.declared.place.Place.TheVariants as place
use Rattle.bidi_syntax.specs.declared.place.StringPart.{StringPart}
use Rattle.bidi_syntax.specs.declared.place.StringPart.TheVariants as string
use Rattle.bidi_syntax.specs.declared.place.WordPart.{WordPart}
use Rattle.bidi_syntax.specs.declared.place.WordPart.TheVariants as word
use Rattle.bidi_syntax.specs.declared.place.State.{State}
use Rattle.bidi_syntax.specs.declared.place.State.TheVariants.{At, InName, InText, InWord, InNumber}
use Rattle.bidi_syntax.specs.declared.turns.Turn.{Turn}
use Rattle.bidi_syntax.specs.declared.turns.Turn.TheVariants.{Goes, Opens, Closes}
use Rattle.bidi_syntax.specs.declared.wants.Wants.{Wants}
use Rattle.bidi_syntax.specs.declared.wants.Wants.TheVariants as wants
use Rattle.bidi_syntax.specs.declared.fault.Fault.{Fault}
use Rattle.bidi_syntax.specs.declared.fault.Fault.TheVariants.{Syntax}
use Rattle.bidi_syntax.specs.declared.reading.TextReader.{TextReader}

-- A text that was read so far.
pub record Reading : Type 0 where
  pub state : State
  -- the arrays and objects that are open, the innermost last
  pub containers : List Container
  -- the most that were open at once
  pub levels : ℕ

-- that of the code
abbrev pub reading_of : TextReader → Reading
reading_of r = record { state = r.state; containers = r.containers.items; levels = r.levels }

-- nothing was read, and a value is wanted
abbrev pub beginning : Reading
beginning = record { state = At place.Value; containers = []; levels = 0 }

-- the innermost of what is open
abbrev pub innermost : List Container → Option Container
innermost containers = slice_get containers (length containers - 1)

-- the place after the bracket that opens
abbrev pub first_of : Container → State
first_of Array = At place.FirstValue
first_of Object = At place.FirstName

-- a text after what one byte more does
abbrev pub after_turn : Turn → Reading → Reading
after_turn (Goes state) r = record { state = state; containers = r.containers; levels = r.levels }
after_turn (Opens o) r = record { state = first_of o; containers = r.containers ++ o ∷ []; levels = max r.levels (length r.containers + 1) }
after_turn Closes r = record { state = At place.Next; containers = take (length r.containers - 1) r.containers; levels = r.levels }

-- a text with one byte more, if it may stand there
abbrev pub next_reading : Reading → ℕ → Option Reading
next_reading r b = option_map (λ turn. after_turn turn r) (turn_of r.state (innermost r.containers) b)

-- a value may end there
abbrev pub may_end : State → Bool
may_end (At place.Next) = true
may_end (InNumber part) = is_ended part
may_end state = false

-- the text may end there: it is one value, and nothing is open
abbrev pub is_whole : Reading → Bool
is_whole r = may_end r.state && (length r.containers == 0)

-- what may follow a value
abbrev pub wants_next : Option Container → Wants
wants_next None = wants.End
wants_next (Some Array) = wants.CommaOrArrayEnd
wants_next (Some Object) = wants.CommaOrObjectEnd

-- what may stand where blanks may
abbrev pub wants_at : Place → Option Container → Wants
wants_at place.Value innermost = wants.Value
wants_at place.FirstValue innermost = wants.ValueOrEnd
wants_at place.FirstName innermost = wants.NameOrEnd
wants_at place.Name innermost = wants.Name
wants_at place.Colon innermost = wants.Colon
wants_at place.Next innermost = wants_next innermost

-- what may stand in a string
abbrev pub wants_in_string : StringPart → Wants
wants_in_string string.Plain = wants.StringRest
wants_in_string string.Escape = wants.EscapeRest
wants_in_string string.FourDigits = wants.HexDigit
wants_in_string string.ThreeDigits = wants.HexDigit
wants_in_string string.TwoDigits = wants.HexDigit
wants_in_string string.OneDigit = wants.HexDigit
wants_in_string string.Closed = wants.StringRest

-- what may stand in `true`, `false` or `null`
abbrev pub wants_in_word : WordPart → Wants
wants_in_word word.T = wants.TrueRest
wants_in_word word.Tr = wants.TrueRest
wants_in_word word.Tru = wants.TrueRest
wants_in_word word.F = wants.FalseRest
wants_in_word word.Fa = wants.FalseRest
wants_in_word word.Fal = wants.FalseRest
wants_in_word word.Fals = wants.FalseRest
wants_in_word word.N = wants.NullRest
wants_in_word word.Nu = wants.NullRest
wants_in_word word.Nul = wants.NullRest

-- what may stand at a place
abbrev pub wants_in : State → Option Container → Wants
wants_in (At place) innermost = wants_at place innermost
wants_in (InName part) innermost = wants_in_string part
wants_in (InText part) innermost = wants_in_string part
wants_in (InWord part) innermost = wants_in_word part
wants_in (InNumber part) innermost = if is_ended part then wants_next innermost else wants.Digit

-- what may follow a text
abbrev pub wants_of : Reading → Wants
wants_of r = wants_in r.state (innermost r.containers)

-- how many levels a text has, from what was read of it, with the place of the next byte and the bytes that are left; or the first place where it is
-- no JSON text, and what may stand there
abbrev pub levels_from : Reading → ℕ → List ℕ → Result ℕ Fault
levels_from r n [] = if is_whole r then Ok r.levels else Err (Syntax (wants_of r) n)
levels_from r n (b ∷ bs) =
    elim (next_reading r b) as (λ _. Result ℕ Fault) [ Some next ↦ levels_from next (n + 1) bs | None ↦ Err (Syntax (wants_of r) n) ]

-- how many levels of arrays and objects a JSON text has, or where the text is not JSON
abbrev pub levels_of : List ℕ → Result ℕ Fault
levels_of text = levels_from beginning 1 text
