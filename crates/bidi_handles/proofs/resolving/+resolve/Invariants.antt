use Rattle.std.proofs.Common.{◌≡◌, drop, map}
use Rattle.bidi_tree.specs.View.{items_of}
use Rattle.bidi_handles.specs.Handles.{values_in}
use Rattle.bidi_handles.specs.Values.{resolved_items}
use Rattle.bidi_values.specs.RemoteView.{remote_tree, remote_pair_tree}
use Rattle.bidi_handles.specs.ValuesInHand.{local_tree, local_pair_tree}
use Rattle.bidi_handles.proofs.ResolveLemmas.{with_done}
use Rattle.bidi_handles.proofs.resolving.+resolve.Given as goal

abbrev pub invariant-resolved_values-loop-value : goal.invariant-resolved_values-loop-value
invariant-resolved_values-loop-value l =
    let held = values_in l.handles in
    with_done (map remote_tree l.all.items) (resolved_items held (items_of (map local_tree (drop l.value-index l.values.items))))
    ≡ resolved_items held (items_of (map local_tree l.values.items))

abbrev pub invariant-resolved_pairs-loop-pair : goal.invariant-resolved_pairs-loop-pair
invariant-resolved_pairs-loop-pair l =
    let held = values_in l.handles in
    with_done (map remote_pair_tree l.all.items) (resolved_items held (items_of (map local_pair_tree (drop l.pair-index l.pairs.items))))
    ≡ resolved_items held (items_of (map local_pair_tree l.pairs.items))
