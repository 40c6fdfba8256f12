-- The state of a connection, with the session that it speaks for. After WebDriver BiDi, "Establishing a Connection".
use Rattle.std.specs.Prelude.{ℕ, ◌==◌, Bool, true, false, Option, Some, None}

-- A connection is shut, open without a session, or open for the session of this number.
pub data Attachment : Type 0 where
  Shut : Attachment
  Alone : Attachment
  SpeaksFor : (session : ℕ) → Attachment

-- whether a connection in this state is shut
abbrev pub is_shut : Attachment → Bool
is_shut Shut = true
is_shut Alone = false
is_shut (SpeaksFor s) = false

-- whether a connection in this state speaks for the session
abbrev pub is_for : ℕ → Attachment → Bool
is_for s Shut = false
is_for s Alone = false
is_for s (SpeaksFor t) = s == t

-- the state of a connection that was opened for this session, or for none
abbrev pub opened_for : Option ℕ → Attachment
opened_for None = Alone
opened_for (Some s) = SpeaksFor s
