use Rattle.std.proofs.Common.{◌≡◌, drop}
use Rattle.bidi_tree.specs.Entries.{entries_of}
use Rattle.bidi_tree.specs.Node.{get_member}
use Rattle.bidi_tree.specs.Outline.{outline_members, named_outlines}
use Rattle.bidi_tree.proofs.outline.find_outline.Given as goal

abbrev pub invariant-loop-member : goal.invariant-loop-member
invariant-loop-member l =
    get_member l.name (outline_members l.members) ≡ get_member l.name (named_outlines (drop l.member-index (entries_of l.members)))
