-- Bytes of a JSON text. After RFC 8259, with its sections.
use Rattle.std.specs.Prelude.{ℕ, Bool, ◌==◌, ◌&&◌, ◌||◌, nat_le}

-- a blank (section 2)
abbrev pub is_blank : ℕ → Bool
is_blank b = (b == 32) || (b == 9) || (b == 10) || (b == 13)

-- `0` to `9`
abbrev pub is_digit : ℕ → Bool
is_digit b = nat_le 48 b && nat_le b 57

-- a digit, `a` to `f`, or `A` to `F`
abbrev pub is_hexadecimal : ℕ → Bool
is_hexadecimal b = is_digit b || (nat_le 97 b && nat_le b 102) || (nat_le 65 b && nat_le b 70)

-- `+` or `-`
abbrev pub is_sign : ℕ → Bool
is_sign b = (b == 43) || (b == 45)

-- `e` or `E`
abbrev pub is_e : ℕ → Bool
is_e b = (b == 101) || (b == 69)

-- what makes an escape with a backslash before it: a quotation mark, a backslash, a slash, `b`, `f`, `n`, `r` or `t` (section 7)
abbrev pub is_escaped : ℕ → Bool
is_escaped b = (b == 34) || (b == 92) || (b == 47) || (b == 98) || (b == 102) || (b == 110) || (b == 114) || (b == 116)
