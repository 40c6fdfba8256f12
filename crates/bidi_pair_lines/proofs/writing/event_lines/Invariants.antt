use Rattle.std.proofs.Common.{◌≡◌, ◌++◌, map}
use Rattle.std.specs.Prelude.{string_bytes}
use Rattle.std.specs.List.{AllByRecursion}
use Rattle.bidi_methods.specs.contracts.event_data.EventDataPayloadEventName.TheImpl.{ghosts}
use Rattle.bidi_ledger.specs.Steps.{event_seen}
use Rattle.bidi_pair_lines.specs.PairLines.{events_text}
use Rattle.bidi_pair_lines.proofs.writing.event_lines.Given as goal

-- the events that are left are well, and their lines make the whole
abbrev pub invariant-events : goal.invariant-events
invariant-events l =
    AllByRecursion (λ d. ghosts.payload.well d) l.event-iterator.rest.items
    × (events_text l.link.value (map event_seen l.fn.events.items)
    ≡ string_bytes l.lines ++ events_text l.link.value (map event_seen l.event-iterator.rest.items))
