use Rattle.std.proofs.Common.{◌-◌, ◌∙◌, map, sym, ap, arith}
use Rattle.std.proofs.lemmas.List.{with_items_is}
use Rattle.bidi_values.specs.Cut.{cut}
use Rattle.bidi_values.specs.RemoteView.{remote_tree, remote_pair_tree}
use Rattle.bidi_values.proofs.CutLemmas.{list_cut, pairs_cut, partly-all, partly-next}
use Rattle.bidi_values.proofs.cut.+cut.Goals as goal

pub cut_value-returns-else-depth-eq0 : goal.cut_value-returns-else-depth-eq0
cut_value-returns-else-depth-eq0 t c =
    list_cut c.args.depth (c.args.depth - 1) c.args.value c.in-List.siblings c.in-List.values c.cut_values.new.values (omega arith) c.in-List.is c.cut_values.ensures

pub cut_value-returns-else-depth-eq0-2 : goal.cut_value-returns-else-depth-eq0-2
cut_value-returns-else-depth-eq0-2 t c =
    pairs_cut c.args.depth (c.args.depth - 1) c.args.value c.in-Pairs.siblings c.in-Pairs.pairs c.cut_pairs.new.pairs (omega arith) c.in-Pairs.is c.cut_pairs.ensures

pub cut_values-loop-value-preserved : goal.cut_values-loop-value-preserved
cut_values-loop-value-preserved t c =
    let cutting = cut c.args.depth in
    partly-next remote_tree cutting c.loop-value.value-index c.deref_mut-value-items.result.now c.loop-value.value-items c.value-item.result c.cut_value.result
    c.loop-value-test.true c.loop-value.invariant c.value-item.is
    (c.cut_value.ensures ∙ ap (λ v. cutting (remote_tree v)) (c.replace-whole.ensures.value ∙ sym c.value-item.is))

pub cut_values-returns : goal.cut_values-returns
cut_values-returns t c =
    let cutting = cut c.args.depth in
    let same = c.loop-value.auto.value-items in
    let long = c.deref_mut-value-items.ensures.len in
    ap (map remote_tree) (with_items_is c.args.values.now c.loop-value.value-items (omega (arith, same, long)))
    ∙ c.loop-value.invariant ∙ partly-all remote_tree cutting c.loop-value.value-index c.deref_mut-value-items.result.now c.loop-value-test.false
    ∙ ap (map (λ v. cutting (remote_tree v))) c.deref_mut-value-items.ensures.value

pub cut_pairs-loop-pair-preserved : goal.cut_pairs-loop-pair-preserved
cut_pairs-loop-pair-preserved t c =
    let cutting = cut c.args.depth in
    partly-next remote_pair_tree cutting c.loop-pair.pair-index c.deref_mut-pair-items.result.now c.loop-pair.pair-items c.pair-item.result c.cut_pair.new.pair
    c.loop-pair-test.true c.loop-pair.invariant c.pair-item.is (c.cut_pair.ensures ∙ ap (λ p. cutting (remote_pair_tree p)) (sym c.pair-item.is))

pub cut_pairs-returns : goal.cut_pairs-returns
cut_pairs-returns t c =
    let cutting = cut c.args.depth in
    let same = c.loop-pair.auto.pair-items in
    let long = c.deref_mut-pair-items.ensures.len in
    ap (map remote_pair_tree) (with_items_is c.args.pairs.now c.loop-pair.pair-items (omega (arith, same, long)))
    ∙ c.loop-pair.invariant ∙ partly-all remote_pair_tree cutting c.loop-pair.pair-index c.deref_mut-pair-items.result.now c.loop-pair-test.false
    ∙ ap (map (λ p. cutting (remote_pair_tree p))) c.deref_mut-pair-items.ensures.value
