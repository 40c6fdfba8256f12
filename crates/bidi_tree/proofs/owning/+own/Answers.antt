use Rattle.std.proofs.Common.{map, ap, ◌∙◌, arith, take_all}
use Rattle.bidi_tree.specs.Json.{parsed}
use Rattle.bidi_tree.specs.View.{items_of}
use Rattle.bidi_tree.proofs.JsonLemmas.{items_parsed}
use Rattle.bidi_tree.proofs.owning.+own.Goals as goal

pub own_items-returns : goal.own_items-returns
own_items-returns t c =
    let vs = c.args.items.now.items in
    ap items_of (c.loop-item.invariant ∙ ap (map parsed) (take_all c.loop-item.item-index vs (omega arith))) ∙ items_parsed vs
