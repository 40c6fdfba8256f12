use Rattle.std.proofs.Common.{rules, ap, ◌∙◌, arith}
use Rattle.bidi_values.specs.View.{nested_tree, nested_pair_tree, NestedIsWell, NestedPairIsWell}
use Rattle.bidi_values.specs.declared.nested.Nested.{the_lemmas}
use Rattle.bidi_values.proofs.NestedLemmas.{copies_gathered, list_well, pairs_well, list_copied, pairs_copied}
use Rattle.bidi_values.proofs.copying.+copy.Goals as goal

pub copy_value-copy_values-requires : goal.copy_value-copy_values-requires
copy_value-copy_values-requires g t c κs within = (
  search (rules, the_lemmas),
  (within.0, (within.1.0, (within.1.1, (list_well g.P.Nests.nesting c.args.value.now c.in-List.siblings c.in-List.values c.in-List.is c.requires).1))),
)

pub copy_value-copy_pairs-requires : goal.copy_value-copy_pairs-requires
copy_value-copy_pairs-requires g t c κs within = (
  search (rules, the_lemmas),
  (within.0, (within.1.0, (within.1.1, (pairs_well g.P.Nests.nesting c.args.value.now c.in-Pairs.siblings c.in-Pairs.pairs c.in-Pairs.is c.requires).1))),
)

pub copy_value-returns-in_ok-siblings-in-List : goal.copy_value-returns-in_ok-siblings-in-List
copy_value-returns-in_ok-siblings-in-List g t c =
    list_copied g.P.Nests.nesting g.met.P.Nests.agrees c.args.value.now c.in-List.siblings c.in_ok-siblings-in-List.siblings
    c.in-List.values c.in_ok-values-in-List.values c.in-List.is c.requires
    c.in_ok-siblings-in-List.ensures.parts c.in_ok-siblings-in-List.ensures.well c.in_ok-values-in-List.ensures.0 c.in_ok-values-in-List.ensures.1

pub copy_value-returns-in_ok-siblings-in-Pairs : goal.copy_value-returns-in_ok-siblings-in-Pairs
copy_value-returns-in_ok-siblings-in-Pairs g t c =
    pairs_copied g.P.Nests.nesting g.met.P.Nests.agrees c.args.value.now c.in-Pairs.siblings c.in_ok-siblings-in-Pairs.siblings
    c.in-Pairs.pairs c.in_ok-pairs-in-Pairs.pairs c.in-Pairs.is c.requires
    c.in_ok-siblings-in-Pairs.ensures.parts c.in_ok-siblings-in-Pairs.ensures.well c.in_ok-pairs-in-Pairs.ensures.0 c.in_ok-pairs-in-Pairs.ensures.1

pub copy_values-loop-value-preserved : goal.copy_values-loop-value-preserved
copy_values-loop-value-preserved g t c =
    copies_gathered (nested_tree g.P.Nests.nesting) (NestedIsWell g.P.Nests.nesting) c.loop-value.copies.items c.push.new.self.items
    c.in_ok-copy_value.field-0 c.deref-value-items.result.now c.loop-value.value-index c.value-item.result
    c.in_ok-push.ensures.items (omega arith) c.loop-value.invariant
    (c.in_ok-copy_value.ensures.0 ∙ ap (nested_tree g.P.Nests.nesting) c.value-item.is) c.in_ok-copy_value.ensures.1

pub copy_pairs-loop-pair-preserved : goal.copy_pairs-loop-pair-preserved
copy_pairs-loop-pair-preserved g t c =
    copies_gathered (nested_pair_tree g.P.Nests.nesting) (NestedPairIsWell g.P.Nests.nesting) c.loop-pair.copies.items c.push.new.self.items
    c.in_ok-copy_pair.field-0 c.deref-pair-items.result.now c.loop-pair.pair-index c.pair-item.result
    c.in_ok-push.ensures.items (omega arith) c.loop-pair.invariant
    (c.in_ok-copy_pair.ensures.0 ∙ ap (nested_pair_tree g.P.Nests.nesting) c.pair-item.is) c.in_ok-copy_pair.ensures.1
