-- Limits of messages. They are this project's own.
use Rattle.std.specs.Prelude.{ℕ}

-- the most levels of a member that no row names, of a script value and of an Info
abbrev pub most_levels : ℕ
most_levels = 60

-- the most bytes of the text of a command, of a row of the script table, and of an argument whose references are resolved
abbrev pub most_bytes : ℕ
most_bytes = 1048576
