use Rattle.bidi_tree.specs.View.{items_of}
use Rattle.std.proofs.Common.{map, arith}
use Rattle.bidi_handles.specs.Handles.{values_in}
use Rattle.bidi_handles.specs.Values.{resolved, resolved_items}
use Rattle.bidi_values.specs.RemoteView.{remote_tree, remote_pair_tree}
use Rattle.bidi_handles.specs.ValuesInHand.{local_tree, local_pair_tree, remote_pair_trees}
use Rattle.bidi_handles.proofs.ResolveLemmas.{handed, list-given, pairs-given, list-refused, pairs-refused, seen-more, seen-refused, seen-all}
use Rattle.bidi_handles.proofs.resolving.+resolve.Goals as goal

pub resolved-returns-in_err-values-in-List : goal.resolved-returns-in_err-values-in-List
resolved-returns-in_err-values-in-List t c =
    let held = values_in c.args.handles.now in
    let e = c.in_err-values-in-List.field-0.0 in
    handed remote_tree c.from_residual.result e (resolved held (local_tree c.args.value.now)) c.from_residual.ensures.1
    (list-refused held c.args.value.now c.in-List.kind c.in-List.values e c.in-List.is c.in_err-values-in-List.ensures)

pub resolved-returns-in_err-pairs-in-Pairs : goal.resolved-returns-in_err-pairs-in-Pairs
resolved-returns-in_err-pairs-in-Pairs t c =
    let held = values_in c.args.handles.now in
    let e = c.in_err-pairs-in-Pairs.field-0.0 in
    handed remote_tree c.from_residual-in_err-pairs-in-Pairs.result e (resolved held (local_tree c.args.value.now))
    c.from_residual-in_err-pairs-in-Pairs.ensures.1
    (pairs-refused held c.args.value.now c.in-Pairs.kind c.in-Pairs.pairs e c.in-Pairs.is c.in_err-pairs-in-Pairs.ensures)

pub resolved-returns-in_ok-values-in-List : goal.resolved-returns-in_ok-values-in-List
resolved-returns-in_ok-values-in-List t c =
    list-given (values_in c.args.handles.now) c.args.value.now c.in-List.kind c.in-List.values c.in_ok-values-in-List.values c.in-List.is
    c.in_ok-values-in-List.ensures

pub resolved-returns-in_ok-pairs-in-Pairs : goal.resolved-returns-in_ok-pairs-in-Pairs
resolved-returns-in_ok-pairs-in-Pairs t c =
    pairs-given (values_in c.args.handles.now) c.args.value.now c.in-Pairs.kind c.in-Pairs.pairs c.in_ok-pairs-in-Pairs.pairs c.in-Pairs.is
    c.in_ok-pairs-in-Pairs.ensures

pub resolved_pairs-returns-in_err-resolved_pair : goal.resolved_pairs-returns-in_err-resolved_pair
resolved_pairs-returns-in_err-resolved_pair t c =
    let held = values_in c.args.handles.now in
    let e = c.in_err-resolved_pair.field-0.0 in
    handed remote_pair_trees c.from_residual-in_err-resolved_pair.result e
    (resolved_items held (items_of (map local_pair_tree c.args.pairs.now.items))) c.from_residual-in_err-resolved_pair.ensures.1
    (seen-refused local_pair_tree remote_pair_tree held c.args.pairs.now.items c.deref-pair-items.result.now c.deref-pair-items.ensures.value
    remote_pair_trees c.loop-pair.all.items c.pair-item.result e c.loop-pair.pair-index
    (omega arith) c.pair-item.is c.in_err-resolved_pair.ensures c.loop-pair.invariant)

pub resolved_pairs-loop-pair-preserved : goal.resolved_pairs-loop-pair-preserved
resolved_pairs-loop-pair-preserved t c =
    seen-more local_pair_tree remote_pair_tree (values_in c.args.handles.now) c.args.pairs.now.items c.deref-pair-items.result.now
    c.deref-pair-items.ensures.value c.loop-pair.all.items c.push.new.self.items c.pair-item.result
    c.in_ok-resolved_pair.field-0 c.loop-pair.pair-index (omega arith) c.pair-item.is c.in_ok-push.ensures.items
    c.in_ok-resolved_pair.ensures c.loop-pair.invariant

pub resolved_pairs-returns : goal.resolved_pairs-returns
resolved_pairs-returns t c =
    seen-all local_pair_tree remote_pair_tree (values_in c.args.handles.now) c.args.pairs.now.items c.deref-pair-items.result.now
    c.deref-pair-items.ensures.value c.loop-pair.all.items c.loop-pair.pair-index (omega arith)
    c.loop-pair.invariant

pub resolved_values-loop-value-preserved : goal.resolved_values-loop-value-preserved
resolved_values-loop-value-preserved t c =
    seen-more local_tree remote_tree (values_in c.args.handles.now) c.args.values.now.items c.deref-value-items.result.now
    c.deref-value-items.ensures.value c.loop-value.all.items c.push.new.self.items c.value-item.result
    c.in_ok-resolved.field-0 c.loop-value.value-index (omega arith) c.value-item.is c.in_ok-push.ensures.items c.in_ok-resolved.ensures c.loop-value.invariant

pub resolved_values-returns : goal.resolved_values-returns
resolved_values-returns t c =
    seen-all local_tree remote_tree (values_in c.args.handles.now) c.args.values.now.items c.deref-value-items.result.now
    c.deref-value-items.ensures.value c.loop-value.all.items c.loop-value.value-index (omega arith)
    c.loop-value.invariant
