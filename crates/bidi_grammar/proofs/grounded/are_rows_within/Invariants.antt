use Rattle.std.proofs.Common.{◌≡◌, drop, map}
use Rattle.bidi_grammar.specs.View.{row_of, rows_are_within}
use Rattle.bidi_grammar.proofs.grounded.are_rows_within.Given as goal

abbrev pub invariant-rows : goal.invariant-rows
invariant-rows l = rows_are_within l.size (map row_of l.rows) ≡ rows_are_within l.size (map row_of (drop l.row-index l.rows))
