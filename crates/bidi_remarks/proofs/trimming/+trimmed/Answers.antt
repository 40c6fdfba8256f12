use Rattle.std.proofs.Common.{◌≡◌, ◌∙◌, List, [], ◌∷◌, false, map, ap, arith, refl, sym, take_all}
use Rattle.bidi_tree.specs.Node.{item}
use Rattle.bidi_tree.specs.Outline.{outline_items, outline_node}
use Rattle.bidi_tree.specs.View.{items_of}
use Rattle.bidi_tree.specs.declared.outline.Outline.{Outline}
use Rattle.bidi_remarks.specs.Trimming.{trimmed, trimmed_items}
use Rattle.bidi_remarks.proofs.trimming.+trimmed.Goals as goal

-- the items of an array are trimmed one by one
each_trimmed : (ds : List Outline) → trimmed_items (outline_items ds) ≡ items_of (map (λ d. trimmed false (outline_node d)) ds)
each_trimmed [] = refl
each_trimmed (d ∷ ds) = ap (item (trimmed false (outline_node d))) (each_trimmed ds)

pub trimmed_items-returns : goal.trimmed_items-returns
trimmed_items-returns t c =
    let ds = c.args.items.now.items in
    ap items_of (c.loop-item.invariant ∙ ap (map (λ (d : Outline). trimmed false (outline_node d))) (take_all c.loop-item.item-index ds (omega arith)))
    ∙ sym (each_trimmed ds)
