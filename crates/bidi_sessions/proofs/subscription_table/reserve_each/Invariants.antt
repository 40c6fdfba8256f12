use Rattle.std.proofs.Common.{◌≡◌, ◌<◌, ℕ, map, get_or}
use Rattle.bidi_sessions.specs.declared.event_index.EventIndex.{EventIndex}
use Rattle.bidi_sessions.specs.SubscriptionView.{scope_of}
use Rattle.bidi_sessions.specs.IndexView.{index_row_of, HasRoomFor}
use Rattle.bidi_sessions.proofs.subscription_table.reserve_each.Given as goal

-- all rows are as they were, and there is room in those that were looked at
abbrev pub invariant-loop-index : goal.invariant-loop-index
invariant-loop-index l =
    (map index_row_of l.by_event ≡ map index_row_of l.initial.by_event)
    × ((k : ℕ) (d : EventIndex) → k < l.index-index → HasRoomFor l.events (scope_of l.scope) (get_or l.by_event k d))
