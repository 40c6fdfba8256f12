use Rattle.std.proofs.Common.{arith}
use Rattle.bidi_loader.specs.Meaning.{written_trees}
use Rattle.bidi_loader.specs.Readings.{source_at}
use Rattle.bidi_loader.proofs.ComesLemmas.{rest_end}
use Rattle.bidi_loader.proofs.made_map.is_rest.Goals as goal

pub returns : goal.returns
returns c = λ h r.
    let w = c.args.written.now in
    rest_end (source_at w c.args.reading.now c.args.origins.now) c.args.rest.now (written_trees w) c.args.list.now c.entries.node-index
    (c.is_no_rest.ensures h) (omega (arith, c.entries-test.false)) (c.entries.invariant r)
