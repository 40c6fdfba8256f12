use Rattle.std.proofs.Common.{◌∙◌, ◌<◌, ◌++◌, ◌^◌, map, ap, sym, subst}
use Rattle.std.specs.List.{AllByRecursion}
use Rattle.bidi_local.proofs.PendingLemmas.{AllByRecursion-ids}
use Rattle.bidi_local.proofs.pending.ids_of.Goals as goal

pub loop-id-init : goal.loop-id-init
loop-id-init c =
    let rest = c.into_iter-id-iterator.ensures.into_iter_gives ∙ c.keys-id-items.ensures.rest in (
      ap (λ l. map (λ n. n.value) l ++ c.into_iter-id-iterator.result) c.new-all.ensures.items ∙ rest,
      subst (AllByRecursion (λ n. n < 2 ^ 53)) (sym rest) (AllByRecursion-ids (λ n. n < 2 ^ 53) c.args.pending.now.entries c.requires),
    )
