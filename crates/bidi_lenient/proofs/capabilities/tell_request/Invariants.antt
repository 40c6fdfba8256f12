use Rattle.std.proofs.Common.{◌≡◌, ◌++◌, map, string_bytes}
use Rattle.bidi_tree.specs.View.{node, members_node}
use Rattle.bidi_lenient.specs.Reports.{members_told, request_told}
use Rattle.bidi_lenient.proofs.capabilities.tell_request.Given as goal

abbrev pub invariant-loop-name : goal.invariant-loop-name
invariant-loop-name l =
    map string_bytes l.told.items ++ members_told (members_node l.name-iterator)
    ≡ map string_bytes l.initial.told.items ++ request_told (node l.request)
