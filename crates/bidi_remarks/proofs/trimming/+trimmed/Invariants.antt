use Rattle.std.proofs.Common.{◌≡◌, false, map, take, drop}
use Rattle.bidi_tree.specs.Node.{no_members}
use Rattle.bidi_tree.specs.Outline.{outline_node, outline_members, named_outlines}
use Rattle.bidi_remarks.specs.Trimming.{trimmed, trimmed_into}
use Rattle.bidi_remarks.proofs.trimming.+trimmed.Given as goal

abbrev pub invariant-trimmed_items-loop-item : goal.invariant-trimmed_items-loop-item
invariant-trimmed_items-loop-item l = map outline_node l.kept.items ≡ map (λ d. trimmed false (outline_node d)) (take l.item-index l.items.items)

abbrev pub invariant-trimmed_members-loop-member : goal.invariant-trimmed_members-loop-member
invariant-trimmed_members-loop-member l =
    trimmed_into l.is_source (named_outlines (drop l.member-index l.members.entries.items)) (outline_members l.kept)
    ≡ trimmed_into l.is_source (outline_members l.members) no_members
