use Rattle.std.proofs.Common.{drop}
use Rattle.bidi_grammar.specs.Source.{PartsAre}
use Rattle.bidi_loader.specs.Meaning.{parts_at, written_trees}
use Rattle.bidi_loader.specs.Readings.{source_at}
use Rattle.bidi_loader.proofs.placing.are_types_of.Given as goal

abbrev pub invariant-parts : goal.invariant-parts
invariant-parts l = PartsAre (source_at l.written l.reading l.origins) (drop l.i l.places) (parts_at (written_trees l.written) (drop l.i l.nodes))
    → PartsAre (source_at l.written l.reading l.origins) l.places (parts_at (written_trees l.written) l.nodes)
