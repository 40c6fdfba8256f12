use Rattle.std.proofs.Common.{◌≡◌, ◌≤◌, ◌+◌, take, drop, length}
use Rattle.bidi_sessions.proofs.MergeLemmas.{IsMerged}
use Rattle.bidi_sessions.proofs.event_index.merge_pairs.Given as goal

-- what is left in front stands where it stood, and behind the gap stands what was put there
abbrev pub invariant-loop-right : goal.invariant-loop-right
invariant-loop-right l =
    let held = take l.held l.fn.pairs in
    (l.left ≤ l.held) × (l.right ≤ length l.tops) × (take l.left l.pairs ≡ take l.left held)
    × IsMerged held l.tops l.number l.left l.right (drop (l.left + l.right) l.pairs)

abbrev pub decreases-loop-right : goal.decreases-loop-right
decreases-loop-right l = l.left + l.right
