use Rattle.std.proofs.Common.{drop, map}
use Rattle.bidi_grammar.specs.Source.{RowsAre}
use Rattle.bidi_grammar.specs.View.{row_of}
use Rattle.bidi_loader.specs.Meaning.{entries_at, written_trees}
use Rattle.bidi_loader.specs.Readings.{IsReading, source_at}
use Rattle.bidi_loader.proofs.made_map.are_rows.Given as goal

abbrev pub invariant-entries : goal.invariant-entries
invariant-entries l = IsReading l.written l.reading
    → RowsAre (source_at l.written l.reading l.origins) (map row_of l.left) (entries_at (written_trees l.written) (drop l.entry-index l.list))
    → RowsAre (source_at l.written l.reading l.origins) (map row_of l.rows) (entries_at (written_trees l.written) l.list)
