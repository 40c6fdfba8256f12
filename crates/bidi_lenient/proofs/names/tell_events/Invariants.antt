use Rattle.std.proofs.Common.{◌≡◌, ◌++◌, map, drop, string_bytes}
use Rattle.bidi_tree.specs.View.{items_node}
use Rattle.bidi_lenient.specs.Reports.{each_told}
use Rattle.bidi_lenient.proofs.names.tell_events.Given as goal

abbrev pub invariant-loop-event : goal.invariant-loop-event
invariant-loop-event l =
    map string_bytes l.told.items ++ each_told (items_node (drop l.event-index l.event-items))
    ≡ map string_bytes l.initial.told.items ++ each_told (items_node l.event-items)
