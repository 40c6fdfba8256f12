use Rattle.std.proofs.Common.{option_map, ap, ◌∙◌}
use Rattle.bidi_tree.specs.View.{node}
use Rattle.bidi_tree.proofs.TreeLemmas.{node_of_ref, node-lookup}
use Rattle.bidi_tree.proofs.tree.find_member.Goals as goal

pub returns : goal.returns
returns c = node_of_ref c.get.result ∙ ap (option_map node) c.get.ensures.value ∙ node-lookup c.args.name.now c.args.members.now.entries
