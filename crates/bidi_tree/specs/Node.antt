-- Trees of JSON, as contracts see them; an object lists its members in byte order of their names. After RFC 8259, 3 to 7.
use Rattle.std.specs.Prelude.{◌≡◌, ◌≤◌, ℕ, suc, max, ℤ, List, Bool, true, false, not, ◌&&◌, ◌||◌, nat_le, ⊤, Option, Some, None}
use Rattle.std.specs.Ordering.{nat_cmp, match_ordering}
use Rattle.std.specs.declared.cmp.Ordering.TheVariants.{Less}
use Rattle.std.specs.Cmp.Lexicographic.{slice_cmp}
use Rattle.bidi_tree.specs.Number.{IsJsInt}

-- a tree: null, a Boolean, a whole number, Odd (any other number), a string, an array or an object
mutual
  -- example: `{"a":[]}` is `map (member "a" (list no_items) no_members)`
  pub data Node : Type 0 where
    null : Node
    boolean : Bool → Node
    whole : ℤ → Node
    odd : Node
    text : List ℕ → Node
    list : Items → Node
    map : Members → Node

  -- the items of an array, in order
  pub data Items : Type 0 where
    no_items : Items
    item : Node → Items → Items

  -- the members of an object, in order
  pub data Members : Type 0 where
    no_members : Members
    member : List ℕ → Node → Members → Members

-- the members with the tree n at the name k: it replaces the member of that name, or goes in before the first greater name
abbrev pub put : List ℕ → Node → Members → Members
put k n no_members = member k n no_members
put k n (member l m ms) = match_ordering (slice_cmp nat_cmp k l) (member k n (member l m ms)) (member l n ms) (member l m (put k n ms))

-- the tree at a name, or None if no member has that name
abbrev pub get_member : List ℕ → Members → Option Node
get_member k no_members = None
get_member k (member l n ms) = match_ordering (slice_cmp nat_cmp k l) (get_member k ms) (Some n) (get_member k ms)

-- the tree at a name of an object; any other tree has none
abbrev pub get_of : List ℕ → Node → Option Node
get_of k null = None
get_of k (boolean b) = None
get_of k (whole z) = None
get_of k odd = None
get_of k (text s) = None
get_of k (list ns) = None
get_of k (map ms) = get_member k ms

-- how deep arrays and objects nest: each has one level more than its deepest part, and an empty one has 1
abbrev mutual
  -- example: `1` has 0 levels, `[]` has 1, `{"a":[1]}` has 2
  pub levels : Node → ℕ
  levels null = 0
  levels (boolean b) = 0
  levels (whole z) = 0
  levels odd = 0
  levels (text s) = 0
  levels (list ns) = suc (items_levels ns)
  levels (map ms) = suc (members_levels ms)

  -- the levels of the deepest item
  pub items_levels : Items → ℕ
  items_levels no_items = 0
  items_levels (item n ns) = max (levels n) (items_levels ns)

  -- the levels of the deepest member
  pub members_levels : Members → ℕ
  members_levels no_members = 0
  members_levels (member k n ms) = max (levels n) (members_levels ms)

-- the tree has a number that is not whole or not in range, at any depth
abbrev mutual
  pub has_odd : Node → Bool
  has_odd null = false
  has_odd (boolean b) = false
  has_odd (whole z) = false
  has_odd odd = true
  has_odd (text s) = false
  has_odd (list ns) = items_have_odd ns
  has_odd (map ms) = members_have_odd ms

  -- some item has a number that is not whole or not in range, at any depth
  pub items_have_odd : Items → Bool
  items_have_odd no_items = false
  items_have_odd (item n ns) = has_odd n || items_have_odd ns

  -- some member has a number that is not whole or not in range, at any depth
  pub members_have_odd : Members → Bool
  members_have_odd no_members = false
  members_have_odd (member k n ms) = has_odd n || members_have_odd ms

-- the tree has no Odd, and at most `limit` levels
-- example: `[1]` is whole within 1 level, `[1.5]` within none
abbrev pub IsWhole : Node → ℕ → Type 0
IsWhole n limit = (has_odd n ≡ false) × (levels n ≤ limit)

-- no member has an Odd, and none has more than `limit` levels
abbrev pub MembersAreWhole : Members → ℕ → Type 0
MembersAreWhole ms limit = (members_have_odd ms ≡ false) × (members_levels ms ≤ limit)

-- no item has an Odd, and none has more than `limit` levels
abbrev pub ItemsAreWhole : Items → ℕ → Type 0
ItemsAreWhole ns limit = (items_have_odd ns ≡ false) × (items_levels ns ≤ limit)

-- tests `IsWhole`
abbrev pub is_whole : Node → ℕ → Bool
is_whole n limit = not (has_odd n) && nat_le (levels n) limit

-- tests `ItemsAreWhole`
abbrev pub items_are_whole : Items → ℕ → Bool
items_are_whole ns limit = not (items_have_odd ns) && nat_le (items_levels ns) limit

-- tests `MembersAreWhole`
abbrev pub members_are_whole : Members → ℕ → Bool
members_are_whole ms limit = not (members_have_odd ms) && nat_le (members_levels ms) limit

-- the most levels of a tree that is written; every message has fewer
abbrev pub most_written_levels : ℕ
most_written_levels = 100

-- the tree may be written: it has no Odd and at most so many levels
abbrev pub IsWritable : Node → Type 0
IsWritable n = IsWhole n most_written_levels

-- the name comes before each name of these members, in byte order
abbrev pub IsBelow : List ℕ → Members → Type 0
IsBelow k no_members = ⊤
IsBelow k (member l n ms) = (slice_cmp nat_cmp k l ≡ Less) × IsBelow k ms

-- the names of the members ascend in byte order, so no two are the same
abbrev pub AreAscending : Members → Type 0
AreAscending no_members = ⊤
AreAscending (member k n ms) = IsBelow k ms × AreAscending ms

-- each whole number is in range and the names of each object ascend, at every depth; this holds of every `Tree` of the code
abbrev mutual
  pub IsSound : Node → Type 0
  IsSound null = ⊤
  IsSound (boolean b) = ⊤
  IsSound (whole z) = IsJsInt z
  IsSound odd = ⊤
  IsSound (text s) = ⊤
  IsSound (list ns) = ItemsAreSound ns
  IsSound (map ms) = AreAscending ms × MembersAreSound ms

  -- in each item, whole numbers are in range and the names of each object ascend
  pub ItemsAreSound : Items → Type 0
  ItemsAreSound no_items = ⊤
  ItemsAreSound (item n ns) = IsSound n × ItemsAreSound ns

  -- in each member, whole numbers are in range and the names of each object ascend
  pub MembersAreSound : Members → Type 0
  MembersAreSound no_members = ⊤
  MembersAreSound (member k n ms) = IsSound n × MembersAreSound ms
