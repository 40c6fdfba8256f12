-- The tree of a JSON value that borrows from its text, as the kit's `json` reads it. After RFC 8259.
use Rattle.std.specs.Prelude.{ℕ, ◌-◌, nat_lt, Bool, true, ◌&&◌, is_some, Option, Some, None}
use Rattle.json.specs.Json as json
use Rattle.json.specs.Value.{value_view}
use Rattle.json.specs.declared.value.Value.{Value}
use Rattle.serde_json.specs.Data.{Num}
use Rattle.serde_json.specs.Read.{number_of}
use Rattle.bidi_tree.specs.Node.{Node, null, boolean, odd, text, list, map, Items, no_items, item, Members, no_members, put}
use Rattle.bidi_tree.specs.Kind.{whole_in}
use Rattle.bidi_tree.specs.Text.{number_node}

-- the tree of a number that was read; a number too large for a float counts as Odd here, and `is_readable` refuses its text
-- example: `1e2` is Odd
abbrev pub number_in : Option Num → Node
number_in None = odd
number_in (Some n) = number_node n

-- the tree of a JSON value; if two members have the same name, the last one counts
abbrev mutual
  pub json_node : json.Json → Node
  json_node json.null = null
  json_node (json.boolean b) = boolean b
  json_node (json.number s) = number_in (number_of s)
  json_node (json.string s) = text s
  json_node (json.array js) = list (json_items js)
  json_node (json.object ms) = map (put_all ms no_members)

  -- the trees of an array's items, in order
  pub json_items : json.Items → Items
  json_items json.no_items = no_items
  json_items (json.item j js) = item (json_node j) (json_items js)

  -- the members of an object, put one by one into those found before
  pub put_all : json.Members → Members → Members
  put_all json.no_members found = found
  put_all (json.member k j ms) found = put_all ms (put k (json_node j) found)

-- no number in the value is too large for a float
abbrev mutual
  pub is_readable : json.Json → Bool
  is_readable json.null = true
  is_readable (json.boolean b) = true
  is_readable (json.number s) = is_some (number_of s)
  is_readable (json.string s) = true
  is_readable (json.array js) = are_readable js
  is_readable (json.object ms) = members_are_readable ms

  -- no number in these items is too large for a float
  pub are_readable : json.Items → Bool
  are_readable json.no_items = true
  are_readable (json.item j js) = is_readable j && are_readable js

  -- no number in these members is too large for a float
  pub members_are_readable : json.Members → Bool
  members_are_readable json.no_members = true
  members_are_readable (json.member k j ms) = is_readable j && members_are_readable ms

-- each number in the value is whole and in range, and the value nests at most n levels deep; a member counts even if a later one of its
-- name replaces it
abbrev mutual
  -- example: not `{"a":1.5,"a":1}`, though its tree is whole
  pub stands_whole : json.Json → ℕ → Bool
  stands_whole json.null n = true
  stands_whole (json.boolean b) n = true
  stands_whole (json.number s) n = is_some (whole_in (number_in (number_of s)))
  stands_whole (json.string s) n = true
  stands_whole (json.array js) n = nat_lt 0 n && items_stand_whole js (n - 1)
  stands_whole (json.object ms) n = nat_lt 0 n && members_stand_whole ms (n - 1)

  -- each of these items is whole and nests at most n levels deep
  pub items_stand_whole : json.Items → ℕ → Bool
  items_stand_whole json.no_items n = true
  items_stand_whole (json.item j js) n = stands_whole j n && items_stand_whole js n

  -- each of these members is whole and nests at most n levels deep
  pub members_stand_whole : json.Members → ℕ → Bool
  members_stand_whole json.no_members n = true
  members_stand_whole (json.member k j ms) n = stands_whole j n && members_stand_whole ms n

-- the tree of a JSON value of the code
abbrev pub parsed : {A : Type 0} → Value A → Node
parsed v = json_node (value_view v)
