use Rattle.std.proofs.Common.{◌≡◌, ◌-◌, length, drop}
use Rattle.bidi_lenient.specs.Source.{is_one_line}
use Rattle.bidi_lenient.proofs.source.is_one_line.Given as goal

-- the bytes are one line exactly if those that are left are
abbrev pub invariant-loop-i : goal.invariant-loop-i
invariant-loop-i l = is_one_line l.bytes ≡ is_one_line (drop l.i l.bytes)

abbrev pub decreases-loop-i : goal.decreases-loop-i
decreases-loop-i l = length l.bytes - l.i
