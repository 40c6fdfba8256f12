use Rattle.std.proofs.Common.{◌<◌, length, arith}
use Rattle.bidi_loader.specs.Readings.{ListsOf}
use Rattle.bidi_loader.proofs.ReadingLemmas.{nodes_more}
use Rattle.bidi_loader.proofs.reading.lists_of_all.Goals as goal

pub nodes-preserved : goal.nodes-preserved
nodes-preserved c = λ e.
    let w = c.args.written.now in
    let k = c.nodes.k in
    let few : k < length w.nodes.items = omega arith in
    nodes_more (ListsOf w) w.nodes.items c.nodes.lists.items c.push.new.self.items k c.index.result.now c.in_ok-lists_of_map.field-0 few c.index.ensures
    c.in_ok-push.ensures.items (c.nodes.invariant e) (c.in_ok-lists_of_map.ensures e)
