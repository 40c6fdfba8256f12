-- What contracts see of the occurrences that the code has: the name of an event, and the tree of its params.
use Rattle.std.specs.Prelude.{List, map}
use Rattle.std.specs.List.{AllByRecursion}
use Rattle.bidi_methods.specs.declared.event_data.EventData.{EventData}
use Rattle.bidi_methods.specs.contracts.event_data.EventDataPayloadEventName.TheImpl as events
use Rattle.bidi_contexts.specs.declared.occurrence.Occurrence as in_code
use Rattle.bidi_contexts.specs.Occurrences.{Occurrence}

-- The occurrence that the code has, as one of the definitions.
abbrev pub occurrence_of : in_code.Occurrence → Occurrence
occurrence_of o = record { event = events.ghosts.payload.kind o.event; context = o.context; top = o.top; params = events.ghosts.payload.tree_of o.event }

-- The occurrences that the code has, as those of the definitions.
abbrev pub seen : List in_code.Occurrence → List Occurrence
seen os = map occurrence_of os

-- The params of the event are well formed.
abbrev pub EventIsWell : EventData → Type 0
EventIsWell d = events.ghosts.payload.well d

-- A message can be made of each event.
abbrev pub AreWell : List in_code.Occurrence → Type 0
AreWell os = AllByRecursion (λ o. events.ghosts.payload.well o.event) os
