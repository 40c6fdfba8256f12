-- The command that the rows of a test see in a text. Defined by this project.
use Rattle.std.specs.Prelude.{ℕ, if◌then◌else◌, List, Option, None}
use Rattle.bidi_rows.specs.Command.{Command, command_of}
use Rattle.bidi_scripted.specs.Fate.{is_json}

-- the command that rows are asked about: rows see only a text that is JSON of at most 1,048,576 bytes
abbrev pub command_for_rows : List ℕ → Option Command
command_for_rows text = if is_json text then command_of text else None
