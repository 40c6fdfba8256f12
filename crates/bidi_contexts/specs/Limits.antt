-- Limits of the browser; all of them are this project's own.
use Rattle.std.specs.Prelude.{ℕ}

-- The most contexts that are live at once.
abbrev pub most_contexts : ℕ
most_contexts = 1024

-- The lowest level at which a context can be; a top-level context is at level 1.
abbrev pub lowest_level : ℕ
lowest_level = 16

-- The most entries that a session history keeps.
abbrev pub most_entries : ℕ
most_entries = 50

-- The most user contexts that are live at once beside `default`.
abbrev pub most_users : ℕ
most_users = 64

-- The most handles that a realm has at once.
abbrev pub most_handles : ℕ
most_handles = 1000

-- The most texts of scripts that have a row in the table.
abbrev pub most_rows : ℕ
most_rows = 1024
