-- What a remote end sends. After WebDriver BiDi, "Transport".
use Rattle.std.specs.Prelude.{ℕ, List}

-- A remote end sends a message or a close on a connection, or reports what became of a connection or of a step.
pub data Sent : Type 0 where
  Text : (conn : ℕ) (text : List ℕ) → Sent
  Close : (conn : ℕ) → Sent
  Opened : (conn : ℕ) → Sent
  Denied : (conn : ℕ) → Sent
  Lost : (conn : ℕ) → Sent
  NoEffect : Sent
