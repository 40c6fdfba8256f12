use Rattle.std.proofs.Common.{◌∙◌, sym, ap}
use Rattle.std.specs.Prelude.{◌==◌}
use Rattle.std.specs.List.{list_any}
use Rattle.std.proofs.Math.Dec.{eqb}
use Rattle.std.proofs.lemmas.List.Filters.{dedup_is}
use Rattle.std.proofs.lemmas.List.Sorted.{list_any-IsPermutation}
use Rattle.bidi_sessions.proofs.ListLemmas.{any-dedup}
use Rattle.bidi_sessions.proofs.subscriptions.distinct.Goals as goal

pub returns : goal.returns
returns c = λ n.
    ap (list_any (λ m. m == n)) (dedup_is eqb _ _ c.dedup.ensures.filtered)
    ∙ (any-dedup (λ m. m == n) c.sort_unstable.new.self.items
    ∙ sym (list_any-IsPermutation (λ m. m == n) _ _ c.sort_unstable.ensures.permutation))
