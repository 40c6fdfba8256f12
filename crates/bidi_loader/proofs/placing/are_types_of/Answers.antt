use Rattle.std.proofs.Common.{◌<◌, length, arith, refl}
use Rattle.bidi_loader.specs.Meaning.{written_trees}
use Rattle.bidi_loader.specs.Readings.{source_at}
use Rattle.bidi_loader.proofs.ComesLemmas.{parts_step, parts_end}
use Rattle.bidi_loader.proofs.placing.are_types_of.Goals as goal

pub parts-preserved : goal.parts-preserved
parts-preserved c = λ h.
    let w = c.args.written.now in
    let few : c.parts.i < length c.args.places.now = omega (arith, c.parts-test.true, c.parts.auto.i-end) in
    c.parts.invariant (parts_step (source_at w c.args.reading.now c.args.origins.now) (written_trees w) c.args.places.now c.args.nodes.now c.parts.i few
    (omega (arith, few, c.if-places-nodes.false)) (c.if-not-is_type_of.ensures refl) h)

pub returns : goal.returns
returns c = λ h.
    let w = c.args.written.now in
    c.parts.invariant (parts_end (source_at w c.args.reading.now c.args.origins.now) (written_trees w) c.args.places.now c.args.nodes.now c.parts.i
    (omega (arith, c.parts-test.false)) (omega (arith, c.parts-test.false, c.if-places-nodes.false)))
