-- How deep a value nests; a part of it nests less deep.
use Rattle.std.proofs.Common.{◌≡◌, ◌<◌, ℕ, suc, List, Bool, true, false, Option, Some, None, cond, ap, arith}
use Rattle.std.specs.Prelude.{max, ◌≤◌}
use Rattle.std.specs.Str.{bytes_eq}
use Rattle.json.specs.Json.{Json, null, boolean, number, string, array, object, Items, no_items, item, Members, no_members, member}
use Rattle.json.specs.Find.{get, get_member, later_or, as_array, as_object}

-- each array and object has one level more than its deepest part
abbrev mutual
  pub levels : Json → ℕ
  levels null = 0
  levels (boolean b) = 0
  levels (number s) = 0
  levels (string s) = 0
  levels (array ts) = suc (items_levels ts)
  levels (object ms) = suc (members_levels ms)

  pub items_levels : Items → ℕ
  items_levels no_items = 0
  items_levels (item t ts) = max (levels t) (items_levels ts)

  pub members_levels : Members → ℕ
  members_levels no_members = 0
  members_levels (member k t ms) = max (levels t) (members_levels ms)

at_most : (o : Option Json) (b : Bool) (t u : Json) (l : ℕ) → ((v : Json) → o ≡ Some v → levels v ≤ l)
    → later_or o (cond b (Some t) None) ≡ Some u → levels u ≤ max (levels t) l
at_most (Some v) b t u l h e = let below : levels u ≤ l = h u e in omega (arith, below)
at_most None true t u l h e = let same : t ≡ u = cc in rw (← same) (omega arith)
at_most None false t u l h e = absurd (cc)

-- a member has at most the levels of the members
levels-get_member : (k : List ℕ) (ms : Members) (u : Json) → get_member k ms ≡ Some u → levels u ≤ members_levels ms
levels-get_member k no_members u e = absurd (cc)
levels-get_member k (member l t ms) u e = at_most (get_member k ms) (bytes_eq l k) t u (members_levels ms) (λ v f. levels-get_member k ms v f) e

-- a member has fewer levels than the object
pub levels-get : (k : List ℕ) (t u : Json) → get k t ≡ Some u → levels u < levels t
levels-get k (object ms) u e = let below = levels-get_member k ms u e in omega (arith, below)
levels-get k t u e = absurd (cc)

-- a value with items is the array of them
pub array_of : (t : Json) (ts : Items) → Some ts ≡ as_array t → t ≡ array ts
array_of (array us) ts e = cc
array_of t ts e = absurd (cc)

-- a value with members is the object of them
pub object_of : (t : Json) (ms : Members) → Some ms ≡ as_object t → t ≡ object ms
object_of (object ns) ms e = cc
object_of t ms e = absurd (cc)

pub array_levels : (t : Json) (ts : Items) → Some ts ≡ as_array t → levels t ≡ suc (items_levels ts)
array_levels t ts is = ap levels (array_of t ts is)

pub object_levels : (t : Json) (ms : Members) → Some ms ≡ as_object t → levels t ≡ suc (members_levels ms)
object_levels t ms is = ap levels (object_of t ms is)
