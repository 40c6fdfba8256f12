-- The table of open connections, in order of opening. Each row has the number of the connection and its state.
use Rattle.std.specs.Prelude.{ℕ, ◌==◌, List, map, filter, if◌then◌else◌, Option, Some, None}
use Rattle.bidi_sessions.specs.declared.connections.Connection.{Connection}
use Rattle.bidi_sessions.specs.declared.connections.Connections.{Connections}
use Rattle.bidi_sessions.specs.declared.connections.Attachment as declared_attachment
use Rattle.bidi_sessions.specs.declared.connections.Attachment.TheVariants as in_code
use Rattle.bidi_sessions.specs.Attachment.{Attachment, Shut, Alone, SpeaksFor, is_for, opened_for}
use Rattle.bidi_sessions.specs.Sent.{Sent}

-- the number of a connection, and its state
abbrev pub ConnectionRow : Type 0
ConnectionRow = ℕ × Attachment

-- the row of a connection in the code
-- example: connection 1 of session 1 is `(1, SpeaksFor 1)`
abbrev pub row_of : Connection → ConnectionRow
row_of c = (c.number.value, opened_for c.session)

-- the rows of the table in the code
abbrev pub rows_in : Connections → List ConnectionRow
rows_in connections = map row_of connections.open.items

-- the state that the code gives a connection
abbrev pub attachment_in_hand : declared_attachment.Attachment → Attachment
attachment_in_hand in_code.Shut = Shut
attachment_in_hand in_code.Alone = Alone
attachment_in_hand (in_code.SpeaksFor s) = SpeaksFor s

-- the state in a row; a connection that has no row is shut
abbrev pub attachment_in : Option ConnectionRow → Attachment
attachment_in None = Shut
attachment_in (Some row) = row.1

-- the row after a session began for the connection of this number; other rows are unchanged
abbrev pub begun : ℕ → ℕ → ConnectionRow → ConnectionRow
begun c s row = if row.0 == c then (c, SpeaksFor s) else row

-- what is sent to each connection of a session, in order of opening
abbrev pub to_each : (ℕ → Sent) → ℕ → List ConnectionRow → List Sent
to_each what s rows = map (λ row. what row.0) (filter (λ row. is_for s row.1) rows)
