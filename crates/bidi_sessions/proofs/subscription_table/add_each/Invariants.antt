use Rattle.std.proofs.Common.{◌≡◌, ◌≤◌, ◌<◌, ℕ, map, length, get_or}
use Rattle.bidi_sessions.specs.declared.event_index.EventIndex.{EventIndex}
use Rattle.bidi_sessions.specs.SubscriptionView.{row_of}
use Rattle.bidi_sessions.specs.IndexRows.{with_row}
use Rattle.bidi_sessions.specs.IndexView.{index_row_of, HasRoomFor}
use Rattle.bidi_sessions.proofs.BeginLemmas.{over}
use Rattle.bidi_sessions.proofs.subscription_table.add_each.Given as goal

-- the rows that were looked at have it, and there is room in the others
abbrev pub invariant-loop-index : goal.invariant-loop-index
invariant-loop-index l =
    let r = row_of l.subscription in
    (map index_row_of l.by_event ≡ over (with_row r) l.index-index (map index_row_of l.initial.by_event))
    × ((k : ℕ) (d : EventIndex) → l.index-index ≤ k → k < length l.by_event → HasRoomFor r.events r.scope (get_or l.by_event k d))
