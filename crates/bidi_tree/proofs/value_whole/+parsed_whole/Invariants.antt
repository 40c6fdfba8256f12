use Rattle.std.proofs.Common.{◌≡◌, drop}
use Rattle.json.specs.Value.{items_view, members_view}
use Rattle.bidi_tree.specs.Json.{json_items, items_stand_whole, members_stand_whole}
use Rattle.bidi_tree.specs.Node.{ItemsAreWhole}
use Rattle.bidi_tree.proofs.WholeLemmas.{PutsWhole}
use Rattle.bidi_tree.proofs.value_whole.+parsed_whole.Given as goal

abbrev pub invariant-are_parsed_whole-loop-item : goal.invariant-are_parsed_whole-loop-item
invariant-are_parsed_whole-loop-item l = record {
  value : items_stand_whole (items_view l.items.items) l.limit ≡ items_stand_whole (items_view (drop l.item-index l.items.items)) l.limit;
  whole : ItemsAreWhole (json_items (items_view (drop l.item-index l.items.items))) l.limit → ItemsAreWhole (json_items (items_view l.items.items)) l.limit;
}

abbrev pub invariant-members_are_parsed_whole-loop-member : goal.invariant-members_are_parsed_whole-loop-member
invariant-members_are_parsed_whole-loop-member l = record {
  value :
      members_stand_whole (members_view l.members.items) l.limit
      ≡ members_stand_whole (members_view (drop l.member-index l.members.items)) l.limit;
  whole : PutsWhole (members_view (drop l.member-index l.members.items)) l.limit → PutsWhole (members_view l.members.items) l.limit;
}
