use Rattle.std.proofs.Common.{◌≤◌, ◌∙◌, ◌++◌, ◌-◌, ◌*◌, ◌∷◌, [], None, map, ap, sym, subst, arith}
use Rattle.std.proofs.lemmas.List.{map-append}
use Rattle.bidi_params.specs.contracts.browsing_context.info.InfoShape.TheImpl.{ghosts}
use Rattle.bidi_contexts.specs.ContextRows.{row_of, inner_info}
use Rattle.bidi_contexts.specs.Contexts.{children_of}
use Rattle.bidi_contexts.specs.Info.{info_within}
use Rattle.bidi_contexts.specs.InfosInHand.{IsWithin}
use Rattle.bidi_handles.specs.Maps.{listed}
use Rattle.bidi_contexts.proofs.PushLemmas.{AllByRecursion-more}
use Rattle.bidi_contexts.proofs.SubtreeLemmas.{left-ones, left-next, left-end, info-made, none-left, two-more}
use Rattle.bidi_contexts.proofs.info_trees.+infos.Goals as goal

pub returns-then-levels-eq0-clause-tree : goal.returns-then-levels-eq0-clause-tree
returns-then-levels-eq0-clause-tree t c = λ past l cs s enough.
    let none = c.if-levels-eq0.true in
    ap (map ghosts.shape.tree_of) c.new-all.ensures.items
    ∙ ap (map (info_within 16 past None)) (sym (none-left past l c.args.contexts.now cs s (omega (arith, none, enough))))

pub loop-context-init : goal.loop-context-init
loop-context-init t c = record {
  tree = λ past l cs s enough. left-ones (info_within 16 past None) c.args.contexts.now past l cs (map ghosts.shape.tree_of c.new-all.result.items)
      (ap (map ghosts.shape.tree_of) c.new-all.ensures.items) s;
  well = rw c.new-all.ensures.items tt;
}

pub loop-context-preserved : goal.loop-context-preserved
loop-context-preserved t c =
    let held = c.loop-context in
    let few : c.args.levels ≤ 16 = c.requires in record {
      tree = λ past l cs s enough.
          let behind = c.in-Some.behind.now in
          let some = c.if-levels-eq0.false in
          left-next (λ k. info_within 16 past None k ∷ []) held.rest.now c.split_at.result.0.now c.split_at.result.1.now behind c.in-Some.context.now
          c.len_below.result past l (map ghosts.shape.tree_of held.all.items) (map ghosts.shape.tree_of c.push.new.self.items) _
          c.in-Some.ensures.cases.0 c.len_below.ensures.is c.split_at.ensures.front c.split_at.ensures.back
          (held.invariant.tree past l cs s enough)
          (λ k level row below.
          ap (map ghosts.shape.tree_of) c.in_ok-push.ensures.items ∙ (map-append ghosts.shape.tree_of held.all.items (c.in_ok-info.field-0 ∷ [])
          ∙ ap (λ t. map ghosts.shape.tree_of held.all.items ++ t ∷ [])
          (c.in_ok-info.ensures.tree ∙ (ap (λ ts. inner_info (row_of c.in-Some.context.now) (listed ts))
          (c.in_ok-children.ensures.tree past _ (children_of past k) below (omega (arith, enough, level, some)))
          ∙ (ap (λ r. inner_info r (listed (map (info_within 16 past None) (children_of past k)))) row
          ∙ info-made past None k s.accepted)))));
      well =
          AllByRecursion-more (IsWithin ghosts.shape (2 * c.args.levels)) held.all.items c.push.new.self.items
          c.in_ok-info.field-0 c.in_ok-push.ensures.items held.invariant.well
          (subst (λ n. IsWithin ghosts.shape n c.in_ok-info.field-0) (two-more c.args.levels c.if-levels-eq0.false)
          (c.in_ok-info.ensures.well (2 * (c.args.levels - 1)) c.in_ok-children.ensures.well (omega (arith, few))));
    }

pub returns-clause-tree : goal.returns-clause-tree
returns-clause-tree t c = λ past l cs s enough.
    left-end (λ k. info_within 16 past None k ∷ []) c.loop-context.rest.now past l (map ghosts.shape.tree_of c.loop-context.all.items)
    (map (info_within 16 past None) cs) c.in_default.ensures.cases (c.loop-context.invariant.tree past l cs s enough)
