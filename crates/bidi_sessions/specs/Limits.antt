-- The limits of a remote end. They are this project's own.
use Rattle.std.specs.Prelude.{ℕ}

-- how many steps a remote end accepts
abbrev pub most_steps : ℕ
most_steps = 1000000000

-- how many connections can be open at once
abbrev pub most_connections : ℕ
most_connections = 64

-- how many sessions can be active at once
abbrev pub most_sessions : ℕ
most_sessions = 8

-- how many live subscriptions a session can have
abbrev pub most_subscriptions : ℕ
most_subscriptions = 256

-- how many of the log entries that a session missed are kept for it
abbrev pub most_missed : ℕ
most_missed = 100
