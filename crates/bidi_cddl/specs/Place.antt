-- Lines and columns.
use Rattle.std.specs.Prelude.{ℕ, ◌+◌, ◌==◌, Bool, List, count_by, take}
use Rattle.std.specs.List.{suffix_len}
use Rattle.bidi_cddl.specs.Sizes.{is_in_line}

-- the byte ends a line
abbrev pub is_line_feed : ℕ → Bool
is_line_feed b = b == 10

-- the line of a byte, from 1 on: one more than the line feeds before it
abbrev pub line_of : List ℕ → ℕ → ℕ
line_of text at = count_by is_line_feed (take at text) + 1

-- the column of a byte, from 1 on: one more than the bytes between the last line feed before it and the byte
abbrev pub column_of : List ℕ → ℕ → ℕ
column_of text at = suffix_len is_in_line (take at text) + 1
