use Rattle.std.proofs.Common.{ap, sym, ◌∙◌}
use Rattle.bidi_tree.specs.Node.{get_of}
use Rattle.bidi_tree.specs.Outline.{outline_node}
use Rattle.bidi_blame.proofs.WordLemmas.{outline_node-Map}
use Rattle.bidi_remarks.proofs.misfit.member.Goals as goal

pub returns-in-Map : goal.returns-in-Map
returns-in-Map c =
    let name = c.args.name.now in
    let seen = ap (λ t. get_of name (outline_node t)) c.in-Map.is ∙ ap (get_of name) (outline_node-Map c.in-Map.members) in
    c.find_outline.ensures ∙ sym seen
