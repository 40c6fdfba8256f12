use Rattle.std.proofs.Common.{◌≡◌, ◌≤◌, ◌+◌, ◌-◌, ◌++◌, take, length}
use Rattle.std.specs.Prelude.{vec_len, vec_capacity}
use Rattle.bidi_sessions.specs.IndexRows.{pairs_at}
use Rattle.bidi_sessions.proofs.event_index.push_pairs.Given as goal

-- the pairs of the contexts that were looked at stand behind the others, and there is room for the rest
abbrev pub invariant-loop-top : goal.invariant-loop-top
invariant-loop-top l =
    (vec_len l.pairs + (length l.tops - l.top-index) ≤ vec_capacity l.pairs)
    × (l.pairs.items ≡ l.fn.pairs.items ++ pairs_at l.number (take l.top-index l.tops))
