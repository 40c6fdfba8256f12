use Rattle.std.proofs.Common.{◌-◌, ◌∙◌, ap, sym, arith}
use Rattle.bidi_values.specs.Cut.{cut}
use Rattle.bidi_values.specs.RemoteView.{remote_tree, remote_pair_tree}
use Rattle.bidi_values.proofs.CutLemmas.{list_cut, pairs_cut}
use Rattle.bidi_handles.proofs.ShowingLemmas.{agree-next}
use Rattle.bidi_handles.proofs.within.+within.Goals as goal

pub is_within-returns-then-depth-gt0 : goal.is_within-returns-then-depth-gt0
is_within-returns-then-depth-gt0 t c = λ within.
    sym (list_cut c.args.depth (c.args.depth - 1) c.args.value.now c.in-List.field-0 c.in-List.values c.in-List.values (omega arith) c.in-List.is
    (c.are_within.ensures within)) ∙ ap remote_tree (sym c.in-List.is)

pub is_within-returns-then-depth-gt0-2 : goal.is_within-returns-then-depth-gt0-2
is_within-returns-then-depth-gt0-2 t c = λ within.
    sym (pairs_cut c.args.depth (c.args.depth - 1) c.args.value.now c.in-Pairs.field-0 c.in-Pairs.pairs c.in-Pairs.pairs (omega arith) c.in-Pairs.is
    (c.pairs_are_within.ensures within)) ∙ ap remote_tree (sym c.in-Pairs.is)

pub are_within-loop-value-preserved : goal.are_within-loop-value-preserved
are_within-loop-value-preserved t c =
    let l = c.loop-value in
    agree-next remote_tree (λ v. cut c.args.depth (remote_tree v)) l.value-index c.deref-value-items.result.now c.value-item.result (omega arith) c.value-item.is l.invariant
    (c.is_within.ensures c.if-not-is_within.false)

pub pairs_are_within-loop-pair-preserved : goal.pairs_are_within-loop-pair-preserved
pairs_are_within-loop-pair-preserved t c =
    let l = c.loop-pair in
    agree-next remote_pair_tree (λ p. cut c.args.depth (remote_pair_tree p)) l.pair-index c.deref-pair-items.result.now c.pair-item.result (omega arith) c.pair-item.is l.invariant
    (c.is_pair_within.ensures c.if-not-is_pair_within.false)
