use Rattle.bidi_tree.proofs.SoundLemmas.{AreAscending-members_node}
use Rattle.bidi_shape.proofs.members.no_others.Goals as goal

pub returns-clause-sorted : goal.returns-clause-sorted
returns-clause-sorted c = AreAscending-members_node c.args.members.now.entries c.iter-name-items.ensures.ordered
