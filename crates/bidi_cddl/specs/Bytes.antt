-- Kinds of bytes. After RFC 8610, appendix B.
use Rattle.std.specs.Prelude.{ℕ, Bool, ◌==◌, ◌&&◌, ◌||◌, nat_le, nat_lt}

-- a blank; the RFC has no tab, and no carriage return without a line feed
abbrev pub is_blank : ℕ → Bool
is_blank b = (b == 32) || (b == 9) || (b == 10) || (b == 13)

-- a control character, which no string has
abbrev pub is_control : ℕ → Bool
is_control b = nat_lt b 32 || (b == 127)

-- `0` to `9`
abbrev pub is_digit : ℕ → Bool
is_digit b = nat_le 48 b && nat_le b 57

-- `e` or `E`
abbrev pub is_e : ℕ → Bool
is_e b = (b == 101) || (b == 69)

-- `+` or `-`
abbrev pub is_plus_or_minus : ℕ → Bool
is_plus_or_minus b = (b == 43) || (b == 45)

-- `a` to `z`, or `A` to `Z`
abbrev pub is_letter : ℕ → Bool
is_letter b = (nat_le 97 b && nat_le b 122) || (nat_le 65 b && nat_le b 90)

-- what a name begins with: a letter, `_`, `$` or `@`
abbrev pub is_name_start : ℕ → Bool
is_name_start b = is_letter b || (b == 95) || (b == 36) || (b == 64)

-- what a name ends with: the same, or a digit
abbrev pub is_name_part : ℕ → Bool
is_name_part b = is_name_start b || is_digit b
