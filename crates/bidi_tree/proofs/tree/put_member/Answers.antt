use Rattle.std.proofs.Common.{ap, ◌∙◌}
use Rattle.bidi_tree.specs.View.{members_node}
use Rattle.bidi_tree.proofs.TreeLemmas.{members_node-insert_entry}
use Rattle.bidi_tree.proofs.tree.put_member.Goals as goal

pub returns-clause-ok : goal.returns-clause-ok
returns-clause-ok c =
    ap members_node c.in_ok-insert.ensures.entries ∙ members_node-insert_entry c.args.members.now.entries c.args.name c.args.tree
