-- How many bytes belong to what begins at the front of a text. After RFC 8610, appendix B.
use Rattle.std.specs.Prelude.{ℕ, zero, suc, ◌+◌, ◌==◌, ◌&&◌, ◌||◌, Bool, true, false, not, if◌then◌else◌, List, [], ◌∷◌, drop, slice_index}
use Rattle.std.specs.List.{prefix_len}
use Rattle.std.specs.Prelude.{Option, Some, None, option_map}
use Rattle.bidi_cddl.specs.Bytes.{is_blank, is_control, is_digit, is_e, is_name_part, is_plus_or_minus}

-- ---- blanks and comments

-- the byte is not the end of a line
abbrev pub is_in_line : ℕ → Bool
is_in_line b = not (b == 10)

-- how many bytes are before the end of the line
abbrev pub line_size : List ℕ → ℕ
line_size s = prefix_len is_in_line s

-- how many bytes of blanks or of a comment are at the front: one blank, or a comment without the end of its line
abbrev pub gap_size : List ℕ → ℕ
gap_size s = if is_blank (slice_index s 0) then 1 else (if slice_index s 0 == 59 then line_size s else 0)

-- ---- numbers

-- how many digits are at the front
abbrev pub digits : List ℕ → ℕ
digits s = prefix_len is_digit s

-- the size of a fraction, or 0 without one
abbrev pub fraction_size : List ℕ → ℕ
fraction_size s = if (slice_index s 0 == 46) && is_digit (slice_index s 1) then 1 + digits (drop 1 s) else 0

-- the size of an exponent, or 0 without one
abbrev pub exponent_size : List ℕ → ℕ
exponent_size s =
    if is_e (slice_index s 0) && is_digit (slice_index s 1) then 1 + digits (drop 1 s)
    else (if is_e (slice_index s 0) && is_plus_or_minus (slice_index s 1) && is_digit (slice_index s 2) then 2 + digits (drop 2 s) else 0)

-- the size of the minus of a number
abbrev pub minus_size : List ℕ → ℕ
minus_size s = if slice_index s 0 == 45 then 1 else 0

-- the size of the whole part of a number: its minus and its digits
abbrev pub whole_size : List ℕ → ℕ
whole_size s = minus_size s + digits (drop (minus_size s) s)

-- the size of a number without its exponent
abbrev pub decimal_size : List ℕ → ℕ
decimal_size s = whole_size s + fraction_size (drop (whole_size s) s)

-- the size of a number
abbrev pub number_size : List ℕ → ℕ
number_size s = decimal_size s + exponent_size (drop (decimal_size s) s)

-- a number begins with these two bytes
abbrev pub begins_number : ℕ → ℕ → Bool
begins_number a b = is_digit a || ((a == 45) && is_digit b)

-- ---- names

-- one more than a size, but 0 stays 0
abbrev pub one_more : ℕ → ℕ
one_more zero = zero
one_more (suc n) = suc (suc n)

-- how many of the bytes belong to a name, where a dot stands right before them or none does; dashes and dots belong to it only if it goes on behind
-- them, and two dots end it
abbrev pub name_rest : Bool → List ℕ → ℕ
name_rest dot [] = 0
name_rest dot (b ∷ bs) =
    if is_name_part b then suc (name_rest false bs)
    else (if b == 45 then one_more (name_rest false bs) else (if (b == 46) && not dot then one_more (name_rest true bs) else 0))

-- the size of a name
abbrev pub name_size : List ℕ → ℕ
name_size s = name_rest false s

-- ---- strings

-- how many bytes are before the last quotation mark of a string, where a backslash stands right before them or none does; a control character may
-- not stand before it
abbrev pub string_rest : Bool → List ℕ → Option ℕ
string_rest escaped [] = None
string_rest escaped (b ∷ bs) =
    if is_control b then None else (if (b == 34) && not escaped then Some 0 else option_map suc (string_rest ((b == 92) && not escaped) bs))

-- how many bytes are before the last quotation mark of a string
abbrev pub string_size : List ℕ → Option ℕ
string_size s = string_rest false s
