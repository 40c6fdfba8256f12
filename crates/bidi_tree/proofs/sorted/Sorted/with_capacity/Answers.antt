use Rattle.std.proofs.Common.{subst, sym}
use Rattle.std.specs.List.Sorted.{IsStrictlySortedBy}
use Rattle.std.specs.Map.{keys_of}
use Rattle.bidi_tree.proofs.sorted.Sorted.with_capacity.Goals as goal

pub invariant_of-result : goal.invariant_of-result
unfolding IsStrictlySortedBy
invariant_of-result g c = record { ascend = subst (λ es. IsStrictlySortedBy g.K.Ord.cmp (keys_of es)) (sym c.in_ok-with_capacity.ensures.items) tt }
