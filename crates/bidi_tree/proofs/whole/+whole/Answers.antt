use Rattle.bidi_tree.proofs.SoundLemmas.{AreAscending-members_node}
use Rattle.bidi_tree.proofs.whole.+whole.Goals as goal

pub are_whole_members-returns-clause-ascending : goal.are_whole_members-returns-clause-ascending
are_whole_members-returns-clause-ascending t c done = AreAscending-members_node c.args.members.now.entries c.iter-member-items.ensures.ordered
