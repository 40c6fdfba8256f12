-- The limits of one connection. They are this project's own.
use Rattle.std.specs.Prelude.{ℕ}

-- the most commands that wait for their replies
abbrev pub most_pending : ℕ
most_pending = 1024
