use Rattle.std.proofs.Common.{ap, sym, ◌∙◌}
use Rattle.bidi_tree.specs.Node.{get_of}
use Rattle.bidi_tree.specs.View.{node}
use Rattle.bidi_tree.proofs.TreeLemmas.{node-Map}
use Rattle.bidi_tree.proofs.tree.Tree.get.Goals as goal

pub returns-in-Map : goal.returns-in-Map
returns-in-Map c =
    let name = c.args.name.now in
    let seen = ap (λ t. get_of name (node t)) c.in-Map.is ∙ ap (get_of name) (node-Map c.in-Map.members) in
    c.find_member.ensures ∙ sym seen
