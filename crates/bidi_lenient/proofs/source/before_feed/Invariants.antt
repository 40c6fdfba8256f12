use Rattle.std.proofs.Common.{◌≡◌, ◌-◌, ◌++◌, length, take, drop}
use Rattle.std.specs.Prelude.{option_map}
use Rattle.bidi_lenient.specs.Source.{before_feed}
use Rattle.bidi_lenient.proofs.source.before_feed.Given as goal

-- what stands before the line feed is what was passed, and what stands before it in the rest
abbrev pub invariant-loop-i : goal.invariant-loop-i
invariant-loop-i l = before_feed l.bytes ≡ option_map (λ rest. take l.i l.bytes ++ rest) (before_feed (drop l.i l.bytes))

abbrev pub decreases-loop-i : goal.decreases-loop-i
decreases-loop-i l = length l.bytes - l.i
