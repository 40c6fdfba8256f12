-- Surrogates that a JSON text escapes. After RFC 8259, section 7: a character outside the first 65,536 is escaped as a pair of them.
use Rattle.std.specs.Prelude.{ℕ, ◌+◌, ◌-◌, Bool, false, not, ◌==◌, ◌&&◌, ◌||◌, nat_le, if◌then◌else◌, List, [], ◌∷◌, slice_index, Option, Some, None}

-- `d` or `D`, the first digit of a surrogate
abbrev pub is_d : ℕ → Bool
is_d b = (b == 100) || (b == 68)

-- `8` to `b`, the second digit of a first half
abbrev pub is_high_digit : ℕ → Bool
is_high_digit b = (b == 56) || (b == 57) || (b == 97) || (b == 98) || (b == 65) || (b == 66)

-- `c` to `f`, the second digit of a second half
abbrev pub is_low_digit : ℕ → Bool
is_low_digit b = (nat_le 99 b && nat_le b 102) || (nat_le 67 b && nat_le b 70)

-- `\ud` is at this place
abbrev pub is_surrogate : List ℕ → ℕ → Bool
is_surrogate s i = (slice_index s i == 92) && (slice_index s (i + 1) == 117) && is_d (slice_index s (i + 2))

-- the first half of a pair is escaped at this place
abbrev pub is_high : List ℕ → ℕ → Bool
is_high s i = is_surrogate s i && is_high_digit (slice_index s (i + 3))

-- the second half of a pair is escaped at this place
abbrev pub is_low : List ℕ → ℕ → Bool
is_low s i = is_surrogate s i && is_low_digit (slice_index s (i + 3))

-- the bytes begin with a second half, or with a first half that no second half follows
abbrev pub is_lone : List ℕ → Bool
is_lone s = is_low s 0 || (is_high s 0 && not (is_low s 6))

-- how many bytes of the character at the front follow its first byte: none, or those of an escape; a pair is one character
abbrev pub rest_of_character : List ℕ → ℕ
rest_of_character s =
    if slice_index s 0 == 92 then (if slice_index s 1 == 117 then (if is_high s 0 && is_low s 6 then 11 else 5) else 1) else 0

-- the place of the first lone surrogate, from the place of the next byte, how many bytes of a character are left, and the bytes that are left
abbrev pub lone_from : ℕ → ℕ → List ℕ → Option ℕ
lone_from n left [] = None
lone_from n left (b ∷ bs) =
    if left == 0 then (if is_lone (b ∷ bs) then Some n else lone_from (n + 1) (rest_of_character (b ∷ bs)) bs) else lone_from (n + 1) (left - 1) bs

-- the place of the first surrogate without its other half, counted from 1
-- example: 3 in `["\ud83d"]`; none in `["\ud83d\ude00"]`
abbrev pub lone_surrogate : List ℕ → Option ℕ
lone_surrogate text = lone_from 1 0 text

-- ---- U+FFFD instead

-- the byte before so many more of an escape of U+FFFD
abbrev pub replacement : ℕ → ℕ → ℕ
replacement left b = if left == 5 then b else (if left == 1 then 100 else 102)

-- the bytes that are left, with U+FFFD for each lone surrogate, from whether one is being replaced and how many bytes of a character are left
abbrev pub mended_from : Bool → ℕ → List ℕ → List ℕ
mended_from is_lone_one left [] = []
mended_from is_lone_one left (b ∷ bs) =
    if left == 0 then b ∷ mended_from (is_lone (b ∷ bs)) (rest_of_character (b ∷ bs)) bs
    else (if is_lone_one then replacement left b else b) ∷ mended_from is_lone_one (left - 1) bs

-- the text with U+FFFD for each surrogate without its other half
-- example: `["\ufffd"]` for `["\ud83d"]`
abbrev pub mended : List ℕ → List ℕ
mended text = mended_from false 0 text
