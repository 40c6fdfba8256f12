use Rattle.std.proofs.Common.{arith}
use Rattle.bidi_shape.proofs.PartLemmas.{next-outlined}
use Rattle.bidi_values.specs.View.{nested_tree, nested_pair_tree}
use Rattle.bidi_values.proofs.NestedLemmas.{plain_outlined, list_outlined, pairs_outlined}
use Rattle.bidi_values.proofs.writing.+write.Goals as goal

pub outline_values-loop-value-preserved : goal.outline_values-loop-value-preserved
outline_values-loop-value-preserved g t c =
    let l = c.loop-value in
    next-outlined (nested_tree g.P.Nests.nesting) c.deref-value-items.result.now l.value-index c.value-item.result l.outlines.items
    c.push.new.self.items c.in_ok-outline_value.field-0 c.in_ok-push.ensures.items (omega arith) l.invariant
    c.in_ok-outline_value.ensures c.value-item.is

pub outline_pairs-loop-pair-preserved : goal.outline_pairs-loop-pair-preserved
outline_pairs-loop-pair-preserved g t c =
    let l = c.loop-pair in
    next-outlined (nested_pair_tree g.P.Nests.nesting) c.deref-pair-items.result.now l.pair-index c.pair-item.result l.outlines.items
    c.push.new.self.items c.in_ok-outline_pair.field-0 c.in_ok-push.ensures.items (omega arith) l.invariant
    c.in_ok-outline_pair.ensures c.pair-item.is

pub outline_value-returns-in_ok-outlines-in-List : goal.outline_value-returns-in_ok-outlines-in-List
outline_value-returns-in_ok-outlines-in-List g t c =
    list_outlined g.P.Nests.nesting g.met.P.Nests.agrees c.outline_around.result c.args.value.now c.in-List.siblings c.in-List.values
    c.in_ok-outlines-in-List.outlines c.in-List.is c.in_ok-outlines-in-List.ensures c.outline_around.ensures

pub outline_value-returns-in_ok-outlines-in-Pairs : goal.outline_value-returns-in_ok-outlines-in-Pairs
outline_value-returns-in_ok-outlines-in-Pairs g t c =
    pairs_outlined g.P.Nests.nesting g.met.P.Nests.agrees c.outline_around-in-Pairs.result c.args.value.now c.in-Pairs.siblings c.in-Pairs.pairs
    c.in_ok-outlines-in-Pairs.outlines c.in-Pairs.is c.in_ok-outlines-in-Pairs.ensures c.outline_around-in-Pairs.ensures

pub outline_value-returns-in-Plain : goal.outline_value-returns-in-Plain
outline_value-returns-in-Plain g t c =
    plain_outlined g.P.Nests.nesting g.met.P.Nests.agrees c.outline.result c.args.value.now c.in-Plain.plain c.in-Plain.is c.outline.ensures
