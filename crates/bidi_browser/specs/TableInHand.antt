-- What contracts see of the script table and of rows that the code has.
use Rattle.std.specs.Prelude.{◌≡◌, ◌≤◌, ◌<◌, Bool, true, false, List, length, option_map, Result, Ok, Err, ⊤, String, string_bytes}
use Rattle.std.specs.String.{string_eq}
use Rattle.std.specs.HashMap.{get, spare, hash_map_len}
use Rattle.std.specs.declared.alloc.Global.{Global}
use Rattle.bidi_tree.specs.Node.{Node, levels}
use Rattle.bidi_scripts.specs.declared.table_row.TableRow.{TableRow}
use Rattle.bidi_scripts.specs.declared.table_row.TableRow.TheVariants as read
use Rattle.bidi_scripts.specs.contracts.table_row.TableRowShape.TheImpl as rows
use Rattle.bidi_handles.specs.declared.refusal.Refusal.{Refusal}
use Rattle.bidi_handles.specs.declared.refusal.Refusal.TheVariants.{Code, NoMemory}
use Rattle.bidi_handles.specs.declared.handle.Ending as declared_ending
use Rattle.bidi_handles.specs.declared.handle.Ending.TheVariants as ends
use Rattle.bidi_browser.specs.declared.script_table.ScriptRow as declared_row
use Rattle.bidi_browser.specs.declared.script_table.ScriptRow.TheVariants as in_code
use Rattle.bidi_browser.specs.declared.script_table.ScriptTable.{ScriptTable}
use Rattle.bidi_contexts.specs.Acts.{Act, ScriptEffect, EndsIn, GivesBack, Ending, Returned, Threw}
use Rattle.bidi_shape.specs.Limits.{most_levels}
use Rattle.bidi_contexts.specs.Outcome.{row_checked}
use Rattle.bidi_values.specs.RemoteView.{remote_tree}
use Rattle.bidi_handles.specs.ValuesInHand.{held_tree}
use Rattle.bidi_contexts.specs.Realms.{row_of, tabled_texts}

-- The tree of a row that was read.
abbrev pub row_tree : TableRow → Node
row_tree row = rows.ghosts.shape.tree_of row

-- The row throws a value.
abbrev pub throws : TableRow → Bool
throws (read.Throws row) = true
throws row = false

-- How a script ends, as the definitions say it.
abbrev pub ending_seen : declared_ending.Ending → Ending
ending_seen (ends.Returned value) = Returned (held_tree value.value)
ending_seen (ends.Threw thrown) = Threw (held_tree thrown.held.value)

-- What a row of the table says, as the definitions say it.
abbrev pub row_seen : declared_row.ScriptRow → ScriptEffect
row_seen (in_code.EndsIn ending) = EndsIn (ending_seen ending)
row_seen (in_code.GivesBack n) = GivesBack n

-- The value of the row has few enough levels to be reported.
abbrev pub IsFew : TableRow → Type 0
IsFew (read.Returns row) = levels (remote_tree row.value) ≤ most_levels
IsFew (read.Throws row) = levels (remote_tree row.value) < most_levels
IsFew (read.Argument row) = ⊤

-- The table has the row that the past gives each text, and no other.
pub record AreTabled (table : ScriptTable) (past : List Act) : Type 0 where
  pub rows : (text : String Global) → option_map row_seen (get string_eq table.rows text) ≡ row_of past (string_bytes text)
  pub count : hash_map_len table.rows ≡ length (tabled_texts past)

-- There is room for one more row.
abbrev pub HasRoomForRow : ScriptTable → Type 0
HasRoomForRow table = 1 ≤ spare table.rows

-- The checks of the row end as the definition says, or an allocation failed.
abbrev pub IsRowChecked : Result (Unit {0}) Refusal → List Act → Node → Type 0
IsRowChecked (Ok u) past t = row_checked past t ≡ Ok tt
IsRowChecked (Err (Code code)) past t = row_checked past t ≡ Err code
IsRowChecked (Err NoMemory) past t = ⊤
