use Rattle.std.proofs.Common.{◌≡◌, ◌++◌}
use Rattle.bidi_tree.proofs.outlining_parsed.in_order.Given as goal

abbrev pub invariant-loop-member : goal.invariant-loop-member
invariant-loop-member l = l.outlines.items ++ l.member-iterator ≡ l.fn.sorted.entries
