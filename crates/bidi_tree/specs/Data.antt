-- The two forms between a tree and its JSON text: the data of `serde_json`, and the tokens of the kit's JSON writer. After RFC 8259.
use Rattle.std.specs.Prelude.{List}
use Rattle.json.specs.Token.{Token}
use Rattle.json.specs.Tree as json_tree
use Rattle.serde_json.specs.Data as json
use Rattle.serde_json.specs.Find.{of_integer}
use Rattle.serde_json.specs.Written.{outline, items_outline, members_outline}
use Rattle.bidi_tree.specs.Node.{Node, null, boolean, whole, odd, text, list, map, Items, no_items, item, Members, no_members, member}

-- the `serde_json` data of a tree; an Odd has no data of its own, and becomes null
abbrev mutual
  pub to_data : Node → json.Data
  to_data null = json.null
  to_data (boolean b) = json.boolean b
  to_data (whole z) = json.number (of_integer z)
  to_data odd = json.null
  to_data (text s) = json.string s
  to_data (list ns) = json.array (to_items ns)
  to_data (map ms) = json.object (to_members ms)

  -- the data of the items of an array, in order
  pub to_items : Items → json.Items
  to_items no_items = json.no_items
  to_items (item n ns) = json.item (to_data n) (to_items ns)

  -- the data of the members of an object, in order
  pub to_members : Members → json.Members
  to_members no_members = json.no_members
  to_members (member k n ms) = json.member k (to_data n) (to_members ms)

-- the tokens, in order, of a tree without Odd
abbrev pub tokens_of : Node → List Token
tokens_of n = json_tree.json_tokens (outline (to_data n))

-- the tokens of an array's items, with the closing bracket
abbrev pub items_tokens : Items → List Token
items_tokens ns = json_tree.items_tokens (items_outline (to_items ns))

-- the tokens of an object's members, with the closing brace
abbrev pub members_tokens : Members → List Token
members_tokens ms = json_tree.members_tokens (members_outline (to_members ms))
