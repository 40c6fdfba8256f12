use Rattle.std.proofs.Common.{◌≡◌, ◌++◌, map, drop, string_bytes}
use Rattle.bidi_tree.specs.View.{items_node}
use Rattle.bidi_lenient.specs.Reports.{items_told}
use Rattle.bidi_lenient.proofs.capabilities.tell_requests.Given as goal

abbrev pub invariant-loop-request : goal.invariant-loop-request
invariant-loop-request l =
    map string_bytes l.told.items ++ items_told (items_node (drop l.request-index l.request-items))
    ≡ map string_bytes l.initial.told.items ++ items_told (items_node l.request-items)
