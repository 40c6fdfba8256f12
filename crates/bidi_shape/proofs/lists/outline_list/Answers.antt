use Rattle.std.proofs.Common.{map, ap, ◌∙◌, take_all, arith}
use Rattle.bidi_tree.specs.Node as kind
use Rattle.bidi_tree.specs.View.{items_of}
use Rattle.bidi_tree.proofs.OutlineLemmas.{outline_node-List}
use Rattle.bidi_shape.proofs.PartLemmas.{next-outlined}
use Rattle.bidi_shape.proofs.lists.outline_list.Goals as goal

pub loop-item-preserved : goal.loop-item-preserved
loop-item-preserved g c =
    let l = c.loop-item in
    next-outlined g.X.Shape.shape.tree_of c.args.items.now l.item-index c.item-item.result l.outlines.items c.push.new.self.items
    c.in_ok-outline.field-0 c.in_ok-push.ensures.items (omega arith) l.invariant c.in_ok-outline.ensures c.item-item.is

pub returns : goal.returns
returns g c =
    let l = c.loop-item in
    let all = l.invariant ∙ ap (map g.X.Shape.shape.tree_of) (take_all l.item-index c.args.items.now (omega arith)) in
    outline_node-List l.outlines ∙ ap (λ ns. kind.list (items_of ns)) all
