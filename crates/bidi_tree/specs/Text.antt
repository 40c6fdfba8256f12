-- The tree of a JSON text, as `serde_json` reads it, and the compact JSON text of a tree. After RFC 8259.
use Rattle.std.specs.Prelude.{ℕ, ℤ, pos, List, [], ◌∷◌, ◌++◌, length, Bool, true, false, if◌then◌else◌, nat_le, Option, Some, None, option_map, codes}
use Rattle.std.specs.Fmt.{signed_decimal}
use Rattle.json.specs.Print.{quoted}
use Rattle.serde_json.specs.Data as json
use Rattle.serde_json.specs.Read.{read}
use Rattle.bidi_tree.specs.Number.{is_js_int}
use Rattle.bidi_tree.specs.Node.{Node, null, boolean, whole, odd, text, list, map, Items, no_items, item, Members, no_members, member}

-- the tree of an integer; one that is out of range is Odd
abbrev pub integer_node : ℤ → Node
integer_node z = if is_js_int z then whole z else odd

-- the tree of a number; whatever `serde_json` reads as a float is Odd, such as `1.0`, `1e3`, `-0` and 2^64
abbrev pub number_node : json.Num → Node
number_node (json.unsigned n) = integer_node (pos n)
number_node (json.negative z) = integer_node z
number_node (json.float x) = odd

-- the tree of the data that `serde_json` reads
abbrev mutual
  pub of_data : json.Data → Node
  of_data json.null = null
  of_data (json.boolean b) = boolean b
  of_data (json.number n) = number_node n
  of_data (json.string s) = text s
  of_data (json.array ds) = list (of_items ds)
  of_data (json.object ms) = map (of_members ms)

  -- the trees of an array's items, in order
  pub of_items : json.Items → Items
  of_items json.no_items = no_items
  of_items (json.item d ds) = item (of_data d) (of_items ds)

  -- the trees of an object's members, in order
  pub of_members : json.Members → Members
  of_members json.no_members = no_members
  of_members (json.member k d ms) = member k (of_data d) (of_members ms)

-- the tree of a JSON text of any length; None if the text is not JSON
-- example: `{"a":1,"a":2}` has the tree `{"a":2}`; `1.0` is Odd; `1e400` has no tree
abbrev pub tree_of : List ℕ → Option Node
tree_of s = option_map of_data (read s)

-- the text has at most `n` bytes, or there is no limit
abbrev pub is_within : Option ℕ → List ℕ → Bool
is_within None s = true
is_within (Some n) s = nat_le (length s) n

-- the tree of a JSON text within the limit; None if the text is longer or not JSON
abbrev pub tree_of_text : Option ℕ → List ℕ → Option Node
tree_of_text limit s = if is_within limit s then tree_of s else None

-- a comma if an item or a member was written before this one
abbrev pub comma_if : Bool → List ℕ
comma_if later = if later then 44 ∷ [] else []

-- the JSON text of a tree without Odd: no blanks, members in byte order of their names; in strings, `\" \\ \b \f \n \r \t` are escaped in
-- this form, and other bytes below 32 as `\u00xx` in lower case
abbrev mutual
  -- example: `{"b":1,"a":"é\n"}` is written `{"a":"é\n","b":1}`
  pub compact_text : Node → List ℕ
  compact_text null = codes "null"
  compact_text (boolean b) = if b then codes "true" else codes "false"
  compact_text (whole z) = signed_decimal z
  compact_text odd = []
  compact_text (text s) = quoted s
  compact_text (list ns) = 91 ∷ items_text false ns
  compact_text (map ms) = 123 ∷ members_text false ms

  -- the text of the items that are left, with commas between them and the closing bracket
  pub items_text : Bool → Items → List ℕ
  items_text later no_items = 93 ∷ []
  items_text later (item n ns) = comma_if later ++ (compact_text n ++ items_text true ns)

  -- the text of the members that are left, with commas between them and the closing brace
  pub members_text : Bool → Members → List ℕ
  members_text later no_members = 125 ∷ []
  members_text later (member k n ms) = comma_if later ++ (quoted k ++ 58 ∷ (compact_text n ++ members_text true ms))
