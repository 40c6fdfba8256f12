use Rattle.std.proofs.Common.{◌≡◌, map, drop}
use Rattle.bidi_tree.specs.Entries.{entries_of}
use Rattle.bidi_tree.specs.Outline.{outline_members, named_outlines}
use Rattle.bidi_shape.specs.Fits.{without}
use Rattle.bidi_shape.proofs.parsed_outline.all_listed.Given as goal

abbrev pub invariant-loop-member : goal.invariant-loop-member
invariant-loop-member l =
    without (map (λ s. s.now) l.names) (outline_members l.members)
    ≡ without (map (λ s. s.now) l.names) (named_outlines (drop l.member-index (entries_of l.members)))
