-- That the numbers of a value can be written is a fact of which there is one proof at most.
use Rattle.std.specs.Coded.{×_prop, Unit-prop, Coded-set, coded_ℕ, coded_list, coded_option}
use Rattle.json.specs.Json.{Json, null, boolean, number, string, array, object, Items, no_items, item, Members, no_members, member}
use Rattle.json.specs.Tree.{HasNumbers, ItemsHaveNumbers, MembersHaveNumbers}

mutual
  pub HasNumbers-prop : (j : Json) → IsProp (HasNumbers j)
  HasNumbers-prop null = Unit-prop
  HasNumbers-prop (boolean b) = Unit-prop
  HasNumbers-prop (number s) = Coded-set (coded_option (coded_list coded_ℕ)) _ _
  HasNumbers-prop (string s) = Unit-prop
  HasNumbers-prop (array js) = items-prop js
  HasNumbers-prop (object ms) = members-prop ms

  pub items-prop : (js : Items) → IsProp (ItemsHaveNumbers js)
  items-prop no_items = Unit-prop
  items-prop (item j js) = ×_prop (HasNumbers-prop j) (items-prop js)

  pub members-prop : (ms : Members) → IsProp (MembersHaveNumbers ms)
  members-prop no_members = Unit-prop
  members-prop (member k j ms) = ×_prop (HasNumbers-prop j) (members-prop ms)
