use Rattle.std.proofs.Common.{◌∙◌, ◌<◌, ◌++◌, ◌^◌, map, ap, sym, subst}
use Rattle.std.specs.List.{AllByRecursion}
use Rattle.bidi_local.proofs.pending.waiting_of.Goals as goal

pub loop-id-init : goal.loop-id-init
loop-id-init c =
    let rest = c.into_iter-id-iterator.ensures.into_iter_gives ∙ c.iter-id-items.ensures.rest in (
      ap (λ l. map (λ w. (w.0.value, w.1)) l ++ c.into_iter-id-iterator.result) c.new-all.ensures.items ∙ rest,
      subst (AllByRecursion (λ w. w.0 < 2 ^ 53)) (sym rest) c.requires,
    )
