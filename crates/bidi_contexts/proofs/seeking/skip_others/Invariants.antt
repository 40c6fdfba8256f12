use Rattle.std.proofs.Common.{◌≡◌, ◌==◌, ◌+◌, ◌-◌, ◌≤◌, find, length}
use Rattle.std.specs.List.{position_or_len}
use Rattle.bidi_contexts.proofs.seeking.skip_others.Given as goal

abbrev pub invariant-loop-left : goal.invariant-loop-left
invariant-loop-left l = (find (λ c. c.number == l.number) l.left ≡ find (λ c. c.number == l.number) l.contexts)
    × (position_or_len (λ c. c.number == l.number) l.contexts ≡ length l.contexts - length l.left + position_or_len (λ c. c.number == l.number) l.left)
    × (length l.left ≤ length l.contexts)

abbrev pub decreases-loop-left : goal.decreases-loop-left
decreases-loop-left l = length l.left
