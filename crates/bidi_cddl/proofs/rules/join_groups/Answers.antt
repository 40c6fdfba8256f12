use Rattle.bidi_cddl.proofs.RuleLemmas.{groups_joined}
use Rattle.bidi_cddl.proofs.rules.join_groups.Goals as goal

pub returns : goal.returns
returns c =
    groups_joined c.args.written.now c.push.new.written c.args.body c.args.added c.in-Some.first c.in-Some-group_in.second c.in_ok-node.node c.in-Some.ensures
    c.in-Some-group_in.ensures c.in_ok-node.ensures
