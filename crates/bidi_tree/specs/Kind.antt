-- The kind of a tree, and what a tree of each kind holds. After RFC 8259, 3.
use Rattle.std.specs.Prelude.{ℕ, ℤ, List, Bool, true, false, Option, Some, None}
use Rattle.bidi_tree.specs.Node.{Node, null, boolean, whole, odd, text, list, map, Items, Members, no_members}

-- the tree is null
abbrev pub is_null : Node → Bool
is_null null = true
is_null (boolean b) = false
is_null (whole z) = false
is_null odd = false
is_null (text s) = false
is_null (list ns) = false
is_null (map ms) = false

-- the Boolean that the tree is, or None for any other kind
abbrev pub bool_in : Node → Option Bool
bool_in null = None
bool_in (boolean b) = Some b
bool_in (whole z) = None
bool_in odd = None
bool_in (text s) = None
bool_in (list ns) = None
bool_in (map ms) = None

-- the whole number that the tree is, or None for any other kind
abbrev pub whole_in : Node → Option ℤ
whole_in null = None
whole_in (boolean b) = None
whole_in (whole z) = Some z
whole_in odd = None
whole_in (text s) = None
whole_in (list ns) = None
whole_in (map ms) = None

-- the bytes of the string that the tree is, or None for any other kind
abbrev pub text_in : Node → Option (List ℕ)
text_in null = None
text_in (boolean b) = None
text_in (whole z) = None
text_in odd = None
text_in (text s) = Some s
text_in (list ns) = None
text_in (map ms) = None

-- the items of the array that the tree is, or None for any other kind
abbrev pub list_in : Node → Option Items
list_in null = None
list_in (boolean b) = None
list_in (whole z) = None
list_in odd = None
list_in (text s) = None
list_in (list ns) = Some ns
list_in (map ms) = None

-- the members of the object that the tree is, or None for any other kind
abbrev pub map_in : Node → Option Members
map_in null = None
map_in (boolean b) = None
map_in (whole z) = None
map_in odd = None
map_in (text s) = None
map_in (list ns) = None
map_in (map ms) = Some ms

-- the members of an object; any other tree has no members
abbrev pub members_in : Node → Members
members_in null = no_members
members_in (boolean b) = no_members
members_in (whole z) = no_members
members_in odd = no_members
members_in (text s) = no_members
members_in (list ns) = no_members
members_in (map ms) = ms
