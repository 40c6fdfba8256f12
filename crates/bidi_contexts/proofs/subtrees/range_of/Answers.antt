use Rattle.std.proofs.Common.{◌≡◌, ◌∙◌, ◌+◌, ◌-◌, length, take, drop, Some, sym, ap, arith}
use Rattle.std.specs.Prelude.{◌==◌, nat_le}
use Rattle.std.specs.List.{position, position_or_len}
use Rattle.std.proofs.lemmas.List.Quantifiers.{position-Some}
use Rattle.bidi_contexts.specs.declared.context.Context.{Context}
use Rattle.bidi_contexts.proofs.SubtreeLemmas.{range-end, range-within}
use Rattle.bidi_contexts.proofs.subtrees.range_of.Goals as goal

pub returns : goal.returns
returns c =
    let items = c.args.contexts.now in
    let i = c.in_ok-start.start in
    let at : position (λ (x : Context). x.number == c.args.number) items ≡ Some i = sym c.in_ok-start.ensures in
    let less = (position-Some (λ (x : Context). x.number == c.args.number) items i c.index-contexts-start.result at).0 in (
      at,
      range-end items i c.len_below.result c.index-contexts-start.result less
          (c.len_below.ensures.is ∙ ap (λ (x : Context). position_or_len (λ (y : Context). nat_le y.details.value.level x.details.value.level)
          (take (length items - (i + 1)) (drop (i + 1) items))) c.index-contexts-start.is),
      omega arith,
      range-within items i c.len_below.result less c.len_below.ensures.within,
    )
