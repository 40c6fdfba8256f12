use Rattle.bidi_tree.specs.Entries.{entries_of}
use Rattle.bidi_tree.proofs.OutlineLemmas.{AreAscending-named_outlines}
use Rattle.bidi_shape.proofs.parsed_outline.all_listed.Goals as goal

pub returns-clause-sorted : goal.returns-clause-sorted
returns-clause-sorted c = AreAscending-named_outlines (entries_of c.args.members.now) c.args.members.now.ascend
