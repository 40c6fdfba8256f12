use Rattle.std.proofs.Common.{arith}
use Rattle.bidi_loader.specs.Meaning.{written_trees}
use Rattle.bidi_loader.specs.Readings.{source_at}
use Rattle.bidi_loader.proofs.ComesLemmas.{rows_end}
use Rattle.bidi_loader.proofs.made_map.are_rows.Goals as goal

pub returns : goal.returns
returns c = λ h r.
    let w = c.args.written.now in
    c.entries.invariant r (rows_end (source_at w c.args.reading.now c.args.origins.now) (written_trees w) c.entries.left.now c.args.list.now c.entries.entry-index
    (omega arith) (omega (arith, c.entries-test.false)))
