use Rattle.std.proofs.Common.{◌≡◌, drop}
use Rattle.bidi_grammar.specs.Source.{further_in}
use Rattle.bidi_loader.specs.Meaning.{entries_at, written_trees}
use Rattle.bidi_loader.specs.Readings.{IsReading}
use Rattle.bidi_loader.proofs.made_map.is_rest.Given as goal

abbrev pub invariant-entries : goal.invariant-entries
invariant-entries l = IsReading l.written l.reading
    → further_in (entries_at (written_trees l.written) (drop l.node-index l.list)) ≡ further_in (entries_at (written_trees l.written) l.list)
