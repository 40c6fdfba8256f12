use Rattle.std.proofs.Common.{◌≡◌, ◌<◌, ◌^◌, ◌++◌, map}
use Rattle.std.specs.List.{AllByRecursion}
use Rattle.bidi_local.specs.Pending.{ids}
use Rattle.bidi_local.proofs.pending.ids_of.Given as goal

abbrev pub invariant-loop-id : goal.invariant-loop-id
invariant-loop-id l = (map (λ n. n.value) l.all.items ++ l.id-iterator ≡ ids l.pending.entries) × AllByRecursion (λ n. n < 2 ^ 53) l.id-iterator
