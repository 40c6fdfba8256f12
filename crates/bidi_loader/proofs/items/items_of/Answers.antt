use Rattle.std.proofs.Common.{◌<◌, length, arith, ap, subst, ◌∙◌}
use Rattle.bidi_loader.specs.Meaning.{items_at, written_trees}
use Rattle.bidi_loader.specs.Readings.{IsNode, items_view}
use Rattle.bidi_loader.proofs.ItemLemmas.{spine-step}
use Rattle.bidi_loader.proofs.items.items_of.Goals as goal

pub spine-preserved : goal.spine-preserved
spine-preserved c = λ l.
    let w = c.args.written.now in
    let place = c.spine.place in
    let few : place < length w.nodes.items = omega (arith, c.if-place-len.false, c.len.ensures, w.nodes.ok.0) in
    let here = subst (λ n. IsNode w place n) c.in-Both.is (few, c.index.ensures) in
    let e = c.in_ok-found.ensures in
    spine-step w c.spine.parts.items c.in-These.found.items c.append.new.self.items place c.in-Both.first c.in-Both.rest (items_at (written_trees w) c.args.group) here
    e.0 l c.in_ok-append-in-These.ensures.items (e.1 ∙ ap (items_view (written_trees w)) c.in-These.is) (c.spine.invariant (omega (arith, c.if-place-bound.false)))
