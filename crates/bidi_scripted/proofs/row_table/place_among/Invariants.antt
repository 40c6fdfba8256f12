use Rattle.std.proofs.Common.{◌≡◌, ◌<◌, ℕ, false, get_or}
use Rattle.bidi_rows.specs.declared.row.Row as declared_row
use Rattle.bidi_rows.specs.Rows.{matches}
use Rattle.bidi_rows.specs.View.{row_of, command_seen}
use Rattle.bidi_scripted.proofs.row_table.place_among.Given as goal

-- no row before is for the command
abbrev pub invariant-loop-i : goal.invariant-loop-i
invariant-loop-i l = (j : ℕ) (d : declared_row.Row) → j < l.i → matches (command_seen l.command) (row_of (get_or l.rows j d)) ≡ false
