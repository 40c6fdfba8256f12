-- A row of the table that was read is that of its text.
use Rattle.std.proofs.Common.{◌≡◌, ◌∙◌, ℕ, List, Option, Some, None, Result, Ok, Err, IfOk, sym, ap}
use Rattle.std.specs.Prelude.{option_map}
use Rattle.bidi_tree.specs.Node.{Node}
use Rattle.bidi_scripts.specs.declared.table_row.TableRow.{TableRow}
use Rattle.bidi_scripts.specs.contracts.table_row.TableRowShape.TheImpl.{ghosts}
use Rattle.bidi_remote.specs.Machine.History.{IsRow, is_row, is_no_row, is_not_json, row_tree}
use Rattle.bidi_remote.specs.State.RowsRead.{IsRowOf}

-- a text has a tree, and so has the row that it is, or there is none
pub row-of-text : {E : Type 0} (r : Result (Option TableRow) E) (s : List ℕ) (t : Node)
    → row_tree s ≡ Some t → IfOk r (λ row. IsRowOf ghosts.shape t row) → IfOk r (λ row. IsRow s (option_map ghosts.shape.tree_of row))
row-of-text (Ok (Some row)) s t at read = is_row (ghosts.shape.tree_of row) (at ∙ ap Some (sym read.0)) (ghosts.shape.fits row read.1)
row-of-text (Ok None) s t at read = is_no_row t at read
row-of-text (Err e) s t at read = tt
