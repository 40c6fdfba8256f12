use Rattle.std.proofs.Common.{◌≡◌, map, take}
use Rattle.bidi_tree.specs.Entries.{entries_of}
use Rattle.bidi_tree.specs.Node.{AreAscending}
use Rattle.bidi_tree.specs.Outline.{named_outlines}
use Rattle.bidi_tree.specs.View.{members_node}
use Rattle.bidi_shape.specs.Fits.{without}
use Rattle.bidi_shape.proofs.parsed_outline.unlisted.Given as goal

abbrev pub invariant-loop-member : goal.invariant-loop-member
invariant-loop-member l = record {
  ascending : AreAscending (named_outlines (take l.member-index (entries_of l.members)));
  rest : members_node l.rest.entries ≡ without (map (λ s. s.now) l.names) (named_outlines (take l.member-index (entries_of l.members)));
}
