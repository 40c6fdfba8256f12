use Rattle.std.proofs.Common.{◌≡◌, ◌+◌, map, drop}
use Rattle.bidi_rows.specs.View.{row_of}
use Rattle.bidi_names.specs.Sums.{total}
use Rattle.bidi_scripted.proofs.script.left_by_rows.Given as goal

-- what is left, with what all have, is what there was with what the rest has
abbrev pub invariant-loop-row : goal.invariant-loop-row
invariant-loop-row l = l.left + total (map (λ r. (row_of r).bytes) l.rows) ≡ l.fn.bytes + total (map (λ r. (row_of r).bytes) (drop l.row-index l.rows))
