use Rattle.std.proofs.Common.{◌≡◌, codes, rules, subst}
use Rattle.std.specs.Prelude.{IfOk}
use Rattle.bidi_tree.specs.View.{node}
use Rattle.bidi_lenient.specs.Members.{within}
use Rattle.bidi_lenient.specs.Eased.{request_eased, requests_eased}
use Rattle.bidi_lenient.proofs.capabilities.ease_capabilities.Goals as goal

pub returns : goal.returns
returns c =
    let always = c.in_ok-eased.ensures request_eased (λ t r is. search rules) in
    subst (λ n. IfOk c.within-2.result (λ t. node t ≡ within (codes "firstMatch") requests_eased n)) always
    (c.within-2.ensures requests_eased (λ t r is. search rules))
