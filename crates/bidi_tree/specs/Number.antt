-- The whole numbers that every reader of JSON holds exactly: js-uint and js-int. After WebDriver BiDi, "Protocol" (CDDL of js-int and js-uint).
use Rattle.std.specs.Prelude.{◌^◌, ◌<◌, ◌-◌, ℕ, ℤ, Bool, nat_lt, unsigned_abs}

-- the number is from 0 to 2^53 - 1
-- example: 9007199254740991 is one, 9007199254740992 is not
abbrev pub IsJsUint : ℕ → Type 0
IsJsUint n = n < 2 ^ 53

-- tests `IsJsUint`
abbrev pub is_js_uint : ℕ → Bool
is_js_uint n = nat_lt n (2 ^ 53)

-- the greatest js-uint
abbrev pub greatest_js_uint : ℕ
greatest_js_uint = 2 ^ 53 - 1

-- the number is from -(2^53 - 1) to 2^53 - 1
abbrev pub IsJsInt : ℤ → Type 0
IsJsInt z = unsigned_abs z < 2 ^ 53

-- tests `IsJsInt`
abbrev pub is_js_int : ℤ → Bool
is_js_int z = nat_lt (unsigned_abs z) (2 ^ 53)
