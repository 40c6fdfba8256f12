-- As many more are counted as the loop has done.
use Rattle.std.proofs.Common.{◌+◌, ◌<◌, ◌++◌, ◌^◌, ℕ, List, length}
use Rattle.std.specs.Prelude.{replicate}
use Rattle.bidi_why.specs.Summary.{Entry, IsSum, unanswered}
use Rattle.bidi_why.proofs.sum.Sum.count_unanswered.Given as goal

abbrev pub invariant-loop : goal.invariant-loop
invariant-loop l =
    (n : ℕ) (told : List Entry) → length told + l.count < 2 ^ 64 → IsSum l.initial.self n told → IsSum l.self n (told ++ replicate l.counter unanswered)
