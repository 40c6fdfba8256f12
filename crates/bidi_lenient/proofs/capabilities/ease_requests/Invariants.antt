use Rattle.std.proofs.Common.{◌≡◌, map, take}
use Rattle.bidi_tree.specs.View.{node}
use Rattle.bidi_lenient.specs.Eased.{request_eased}
use Rattle.bidi_lenient.proofs.capabilities.ease_requests.Given as goal

abbrev pub invariant-loop-request : goal.invariant-loop-request
invariant-loop-request l = map node l.eased.items ≡ map (λ t. request_eased (node t)) (take l.request-index l.request-items)
