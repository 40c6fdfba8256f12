use Rattle.std.proofs.Common.{◌∙◌, None, ap, map, arith}
use Rattle.bidi_handles.specs.Maps.{listed}
use Rattle.bidi_contexts.specs.ContextRows.{row_of, root_info}
use Rattle.bidi_contexts.specs.Contexts.{children_of}
use Rattle.bidi_contexts.specs.Info.{info_within}
use Rattle.bidi_contexts.proofs.TableLemmas.{ok-told}
use Rattle.bidi_contexts.proofs.info_trees.whole_info.Goals as goal

pub returns-clause-tree : goal.returns-clause-tree
returns-clause-tree c = λ past k is below.
    ok-told _ c.root_info.result _ _ c.root_info.ensures.tree
    (ap (λ ts. root_info (row_of c.args.context.now) (listed ts)) (c.in_ok-children.ensures.tree past _ (children_of past k) below (omega arith))
    ∙ ap (λ r. root_info r (listed (map (info_within 16 past None) (children_of past k)))) is)

pub returns-clause-well : goal.returns-clause-well
returns-clause-well c = c.root_info.ensures.well 32 c.in_ok-children.ensures.well (omega arith)
