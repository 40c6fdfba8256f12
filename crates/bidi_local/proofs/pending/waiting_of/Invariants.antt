use Rattle.std.proofs.Common.{◌≡◌, ◌<◌, ◌^◌, ◌++◌, map}
use Rattle.std.specs.List.{AllByRecursion}
use Rattle.bidi_local.proofs.pending.waiting_of.Given as goal

abbrev pub invariant-loop-id : goal.invariant-loop-id
invariant-loop-id l = (map (λ w. (w.0.value, w.1)) l.all.items ++ l.id-iterator ≡ l.pending.entries) × AllByRecursion (λ w. w.0 < 2 ^ 53) l.id-iterator
