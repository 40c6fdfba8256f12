use Rattle.std.proofs.Common.{sym, subst, arith}
use Rattle.bidi_shape.specs.Fits.{Fits}
use Rattle.bidi_shape.specs.ListLaws.{AllFit-at}
use Rattle.bidi_shape.specs.Outcome.{handed_on}
use Rattle.bidi_shape.proofs.lists.read_items.Goals as goal

pub returns-in_err-from_tree-clause-no_fit : goal.returns-in_err-from_tree-clause-no_fit
returns-in_err-from_tree-clause-no_fit g c =
    handed_on _ _ c.from_residual-in_err-from_tree.ensures.1 (c.in_err-from_tree.ensures.no_fit) (λ bad a.
    let τ = g.X.Shape.shape.rule in
    bad (subst (λ t. Fits (g.S.Parsed.tree t) τ) (sym c.item-item.is)
    (AllFit-at g.S.Parsed.tree τ c.args.items.now c.loop-item.item-index c.item-item.result (omega arith) a)))
