use Rattle.std.proofs.Common.{◌≡◌, map}
use Rattle.bidi_sessions.specs.IndexRows.{without_numbers}
use Rattle.bidi_sessions.specs.IndexView.{index_row_of}
use Rattle.bidi_sessions.proofs.BeginLemmas.{over}
use Rattle.bidi_sessions.proofs.subscription_table.cancel_each.Given as goal

-- the rows that were looked at are without them
abbrev pub invariant-loop-index : goal.invariant-loop-index
invariant-loop-index l = map index_row_of l.by_event ≡ over (without_numbers l.numbers) l.index-index (map index_row_of l.initial.by_event)
