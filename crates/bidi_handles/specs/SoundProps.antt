-- That a tree is sound has one proof at most, so it can be a ghost field. Defined by this project.
use Rattle.std.specs.Prelude.{◌≡◌, ℕ, List}
use Rattle.std.specs.Coded.{×_prop, Unit-prop}
use Rattle.std.proofs.Props.{props}
use Rattle.bidi_tree.specs.Node.{Node, null, boolean, whole, odd, text, list, map, Items, no_items, item, Members, no_members, member}
use Rattle.bidi_tree.specs.Node.{IsBelow, AreAscending, IsSound, ItemsAreSound, MembersAreSound}

below-prop : (k : List ℕ) (ms : Members) → IsProp (IsBelow k ms)
below-prop k no_members = Unit-prop
below-prop k (member l n ms) = ×_prop (Prim.hlevel props) (below-prop k ms)

ascending-prop : (ms : Members) → IsProp (AreAscending ms)
ascending-prop no_members = Unit-prop
ascending-prop (member k n ms) = ×_prop (below-prop k ms) (ascending-prop ms)

mutual
  -- that a tree is sound has one proof at most
  pub IsSound-prop : (n : Node) → IsProp (IsSound n)
  IsSound-prop null = Unit-prop
  IsSound-prop (boolean b) = Unit-prop
  IsSound-prop (whole z) = Prim.hlevel props
  IsSound-prop odd = Unit-prop
  IsSound-prop (text s) = Unit-prop
  IsSound-prop (list ns) = items-prop ns
  IsSound-prop (map ms) = ×_prop (ascending-prop ms) (members-prop ms)

  items-prop : (ns : Items) → IsProp (ItemsAreSound ns)
  items-prop no_items = Unit-prop
  items-prop (item n ns) = ×_prop (IsSound-prop n) (items-prop ns)

  members-prop : (ms : Members) → IsProp (MembersAreSound ms)
  members-prop no_members = Unit-prop
  members-prop (member k n ms) = ×_prop (IsSound-prop n) (members-prop ms)
