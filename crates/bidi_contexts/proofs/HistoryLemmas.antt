-- The session history of a context in hand.
use Rattle.std.proofs.Common.{◌≤◌, ◌<◌, length, arith}
use Rattle.bidi_contexts.specs.declared.context.Context.{Context}
use Rattle.bidi_contexts.specs.ContextRows.{row_of}
use Rattle.bidi_contexts.specs.Limits.{most_entries}

-- it has no more entries than it keeps, and one at its place
pub entries-fit : (c : Context) → (length (row_of c).entries.urls ≤ most_entries) × ((row_of c).entries.place < length (row_of c).entries.urls)
entries-fit c =
    let size = c.details.value.history.entries.ok.0 in
    let few = c.details.value.history.few in
    let there = c.details.value.history.stands in
    (omega (arith, size, few), omega (arith, size, there))
