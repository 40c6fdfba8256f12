use Rattle.std.proofs.Common.{◌≡◌, codes, rules, subst}
use Rattle.std.specs.Prelude.{IfOk}
use Rattle.bidi_tree.specs.View.{node}
use Rattle.bidi_lenient.specs.Members.{within}
use Rattle.bidi_lenient.specs.Eased.{source_eased, target_eased}
use Rattle.bidi_lenient.proofs.scripts.ease_script_params.Goals as goal

pub returns : goal.returns
returns c =
    let script = c.in_ok-eased.ensures source_eased (λ t r is. search rules) in
    subst (λ n. IfOk c.within-2.result (λ t. node t ≡ within (codes "target") target_eased n)) script
    (c.within-2.ensures target_eased (λ t r is. search rules))
