use Rattle.std.proofs.Common.{◌≡◌, map, take, drop}
use Rattle.json.specs.Value.{members_view}
use Rattle.bidi_tree.specs.Node.{no_members}
use Rattle.bidi_tree.specs.Json.{parsed, put_all}
use Rattle.bidi_tree.specs.View.{node, members_node}
use Rattle.bidi_tree.proofs.owning.+own.Given as goal

abbrev pub invariant-own_items-loop-item : goal.invariant-own_items-loop-item
invariant-own_items-loop-item l = map node l.trees.items ≡ map parsed (take l.item-index l.items.items)

abbrev pub invariant-own_members-loop-member : goal.invariant-own_members-loop-member
invariant-own_members-loop-member l =
    put_all (members_view (drop l.member-index l.members.items)) (members_node l.owned.entries) ≡ put_all (members_view l.members.items) no_members
