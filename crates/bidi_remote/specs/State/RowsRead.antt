-- What contracts see of a row of the script table that was read.
use Rattle.std.specs.Prelude.{◌≡◌, Option, Some, None}
use Rattle.bidi_tree.specs.Node.{Node}
use Rattle.bidi_shape.specs.Fits.{Fits}
use Rattle.bidi_shape.specs.Value.{ShapeOf}
use Rattle.bidi_scripts.specs.declared.table_row.TableRow.{TableRow}

-- The row is that of the tree; if there is none, the tree fits no row.
abbrev pub IsRowOf : ShapeOf TableRow → Node → Option TableRow → Type 0
IsRowOf shape t (Some row) = (shape.tree_of row ≡ t) × shape.well row
IsRowOf shape t None = Fits t shape.rule → ⊥
