-- Numbers of a JSON text that are too large for a float. After RFC 8259, section 6, which lets a reader set limits.
use Rattle.std.specs.Prelude.{ℕ, ◌+◌, Bool, true, false, not, ◌==◌, ◌&&◌, ◌||◌, if◌then◌else◌, List, [], ◌∷◌, drop, slice_index, Option, Some, None}
use Rattle.std.specs.Float.{binary64, float_is_finite}
use Rattle.fast_float.specs.Text.{scan, nearest}
use Rattle.bidi_syntax.specs.Bytes.{is_digit, is_e, is_sign}
use Rattle.bidi_syntax.specs.declared.numbers.Mode.{Mode}
use Rattle.bidi_syntax.specs.declared.numbers.Mode.TheVariants.{Between, Number, Text, Backslash}

-- the float nearest to the number at the front, after its sign, is infinite
abbrev pub is_large_from : Bool → List ℕ → Bool
is_large_from is_negative digits = not (float_is_finite (nearest binary64 is_negative (scan digits)))

-- the number at the front is too large for a float
abbrev pub is_large : List ℕ → Bool
is_large s = if slice_index s 0 == 45 then is_large_from true (drop 1 s) else is_large_from false s

-- a number begins with this byte
abbrev pub begins_number : Mode → ℕ → Bool
begins_number Between b = is_digit b || (b == 45)
begins_number Number b = false
begins_number Text b = false
begins_number Backslash b = false

-- the byte can be in a number
abbrev pub is_number_byte : ℕ → Bool
is_number_byte b = is_digit b || is_sign b || is_e b || (b == 46)

-- what the next byte comes after
abbrev pub next_mode : Mode → ℕ → Mode
next_mode Between b = if b == 34 then Text else (if is_digit b || (b == 45) then Number else Between)
next_mode Number b = if is_number_byte b then Number else Between
next_mode Text b = if b == 34 then Between else (if b == 92 then Backslash else Text)
next_mode Backslash b = Text

-- the place of the first number that is too large, from what the next byte comes after, its place, and the bytes that are left
abbrev pub large_from : Mode → ℕ → List ℕ → Option ℕ
large_from mode n [] = None
large_from mode n (b ∷ bs) = if begins_number mode b && is_large (b ∷ bs) then Some n else large_from (next_mode mode b) (n + 1) bs

-- the place where the first number that is too large for a float begins, counted from 1
-- example: 2 in `[1e400]`
abbrev pub large_number : List ℕ → Option ℕ
large_number text = large_from Between 1 text
