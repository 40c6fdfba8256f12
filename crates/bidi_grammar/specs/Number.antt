-- The value of a JSON number, by its text. After RFC 8259, 6, and IEEE 754.
use Rattle.std.specs.Prelude.{ℕ, ◌^◌, ℤ, int_le, List, length, drop, slice_index, ◌==◌, Bool, false, not, ◌&&◌, nat_lt, Option, Some, None, if◌then◌else◌}
use Rattle.std.specs.Option.{option_map_or}
use Rattle.std.specs.Float.{Float, binary64}
use Rattle.fast_float.specs.Text.{minus, Parts, scan, digits_of, nearest, with_sign}

-- the number is written with a minus sign
abbrev pub is_negative : List ℕ → Bool
is_negative s = slice_index s 0 == minus

-- the text without its minus sign
abbrev pub behind_sign : List ℕ → List ℕ
behind_sign s = if is_negative s then drop 1 s else s

-- the digits, the point and the exponent of a number's text
abbrev pub parts_of : List ℕ → Parts
parts_of s = scan (behind_sign s)

-- there are digits, and neither a point nor an exponent
abbrev pub is_integer : Parts → Bool
is_integer p = nat_lt 0 (length p.whole) && not p.point && (length p.exponent == 0)

-- the whole number of some digits, if it has at most 64 bits
abbrev pub whole_of : Bool → Parts → Option ℤ
whole_of sign p = if is_integer p && nat_lt (digits_of p) (2 ^ 64) then Some (with_sign sign (digits_of p)) else None

-- the whole number that a text writes, if it has at most 64 bits; `1.0` and `1e2` are no whole numbers
-- example: `-0` is 0
abbrev pub whole_in : List ℕ → Option ℤ
whole_in s = whole_of (is_negative s) (parts_of s)

-- the IEEE double nearest to the number, infinite if the number is too large
abbrev pub double : List ℕ → Float
double s = nearest binary64 (is_negative s) (parts_of s)

-- the text writes a whole number from a to b
abbrev pub is_whole_from : ℤ → ℤ → List ℕ → Bool
is_whole_from a b s = option_map_or (λ z. int_le a z && int_le z b) (whole_in s) false
