use Rattle.std.proofs.Common.{map, ap, sym, ◌∙◌, arith, take_all}
use Rattle.bidi_tree.specs.Node as tree
use Rattle.bidi_tree.specs.View.{node, items_of}
use Rattle.bidi_tree.proofs.TreeLemmas.{node-List}
use Rattle.bidi_lenient.specs.Eased.{request_eased, requests_eased}
use Rattle.bidi_lenient.proofs.KeptLemmas.{items_eased-map}
use Rattle.bidi_lenient.proofs.capabilities.ease_requests.Goals as goal

pub returns : goal.returns
returns c =
    let ts = c.in-List.items.items in
    let lent = c.deref-request-items.result.now in
    let all = take_all c.loop-request.request-index lent (omega arith) ∙ c.deref-request-items.ensures.value in
    let each = c.loop-request.invariant ∙ ap (map (λ t. request_eased (node t))) all in
    node-List c.loop-request.eased ∙ ap tree.list (ap items_of each ∙ items_eased-map ts)
    ∙ ap requests_eased (sym (node-List c.in-List.items) ∙ ap node (sym c.in-List.is))
