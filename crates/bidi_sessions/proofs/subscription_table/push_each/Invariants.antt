use Rattle.std.proofs.Common.{◌≡◌, ◌≤◌, ◌+◌, ◌-◌, ◌++◌, take, length}
use Rattle.std.specs.Prelude.{vec_len, vec_capacity}
use Rattle.bidi_sessions.proofs.subscription_table.push_each.Given as goal

-- those that were looked at stand behind the others, and there is room for the rest
abbrev pub invariant-loop-number : goal.invariant-loop-number
invariant-loop-number l =
    (vec_len l.room + (length l.named - l.number-index) ≤ vec_capacity l.room) × (l.room.items ≡ l.fn.room.items ++ take l.number-index l.named)
