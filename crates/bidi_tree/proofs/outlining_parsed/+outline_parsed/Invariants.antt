use Rattle.std.proofs.Common.{◌≡◌, map, take, drop}
use Rattle.json.specs.Value.{members_view}
use Rattle.bidi_tree.specs.Node.{no_members}
use Rattle.bidi_tree.specs.Outline.{outline_node, outline_members, named_outlines}
use Rattle.bidi_tree.specs.Json.{parsed, put_all}
use Rattle.bidi_tree.proofs.outlining_parsed.+outline_parsed.Given as goal

abbrev pub invariant-outlines_parsed-loop-item : goal.invariant-outlines_parsed-loop-item
invariant-outlines_parsed-loop-item l = map outline_node l.outlines.items ≡ map parsed (take l.item-index l.items.items)

abbrev pub invariant-few_parsed-loop-member : goal.invariant-few_parsed-loop-member
invariant-few_parsed-loop-member l =
    put_all (members_view (drop l.member-index l.members.items)) (outline_members l.sorted) ≡ put_all (members_view l.members.items) no_members

abbrev pub invariant-many_parsed-loop-member : goal.invariant-many_parsed-loop-member
invariant-many_parsed-loop-member l =
    put_all (members_view (drop l.member-index l.members.items)) (named_outlines l.sorted.entries) ≡ put_all (members_view l.members.items) no_members
