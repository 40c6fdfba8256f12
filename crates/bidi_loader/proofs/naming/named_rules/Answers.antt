use Rattle.std.proofs.Common.{◌<◌, length, arith}
use Rattle.bidi_loader.specs.Loading.{IsNamed}
use Rattle.bidi_loader.proofs.ReadingLemmas.{nodes_more}
use Rattle.bidi_loader.proofs.naming.named_rules.Goals as goal

pub rules-preserved : goal.rules-preserved
rules-preserved c =
    let w = c.args.written.now in
    let i = c.rules.i in
    let few : i < length w.rules.items = omega arith in
    nodes_more (IsNamed w c.args.reading.now c.args.made.now.origins.items) w.rules.items c.rules.rules.items c.push.new.self.items i c.index.result.now c.in_ok-named.field-0
    few c.index.ensures c.in_ok-push.ensures.items c.rules.invariant (c.in_ok-named.ensures few c.index.ensures)
