-- Messages without the members that only the W3C's draft has.
use Rattle.std.specs.Prelude.{ℕ, List, codes, Bool, true, false, ◌&&◌, ◌||◌, if◌then◌else◌}
use Rattle.std.specs.Str.{bytes_eq}
use Rattle.bidi_tree.specs.Node.{Node, null, boolean, whole, odd, text, list, map, Items, no_items, item, Members, no_members, member, put}
use Rattle.bidi_remarks.specs.Beyond.{is_vendor_name}

-- only the draft has a member of this name: a vendor's, or the user context of a source
abbrev pub is_left_out : Bool → List ℕ → Bool
is_left_out is_source k = is_vendor_name k || (is_source && bytes_eq k (codes "userContext"))

-- the member of this name is a source
abbrev pub is_source_name : List ℕ → Bool
is_source_name k = bytes_eq k (codes "source")

-- a tree, which is a source or not, without the members that only the draft has
abbrev mutual
  pub trimmed : Bool → Node → Node
  trimmed is_source null = null
  trimmed is_source (boolean b) = boolean b
  trimmed is_source (whole z) = whole z
  trimmed is_source odd = odd
  trimmed is_source (text s) = text s
  trimmed is_source (list ts) = list (trimmed_items ts)
  trimmed is_source (map ms) = map (trimmed_into is_source ms no_members)

  -- the same of the items of a list
  pub trimmed_items : Items → Items
  trimmed_items no_items = no_items
  trimmed_items (item t ts) = item (trimmed false t) (trimmed_items ts)

  -- the members of a map that are kept, put one by one into those found before
  pub trimmed_into : Bool → Members → Members → Members
  trimmed_into is_source no_members found = found
  trimmed_into is_source (member k t ms) found =
      trimmed_into is_source ms (if is_left_out is_source k then found else put k (trimmed (is_source_name k) t) found)
