-- Reading the members of a command's params. A reading is exact if the params fit their rule, and gives a default otherwise. Defined by this project.
use Prim.Native.String.{String}
use Rattle.std.specs.Prelude.{ℕ, ℤ, pos, negsuc, List, [], ◌∷◌, codes, bytes_eq, flat_map, Option, Some, None, option_map}
use Rattle.std.specs.Prelude.{option_and_then, option_to_list, unwrap_or, is_some, Bool, ◌&&◌, nat_lt, length, if◌then◌else◌}
use Rattle.std.specs.List.{list_all}
use Rattle.bidi_tree.specs.Node.{Node, Items, no_items, item, get_of}
use Rattle.bidi_tree.specs.Kind.{text_in, whole_in, list_in}

-- the items of an array, as a list
abbrev pub items_in : Items → List Node
items_in no_items = []
items_in (item t ts) = t ∷ items_in ts

-- the strings among some trees
abbrev pub texts_among : List Node → List (List ℕ)
texts_among ts = flat_map (λ t. option_to_list (text_in t)) ts

-- the number, or a default if it is negative
abbrev pub natural : ℤ → ℕ
natural (pos n) = n
natural (negsuc n) = 0

-- ---- members that are optional

-- the tree of the member with this name, or None
abbrev pub tree_if_at : String → Node → Option Node
tree_if_at name params = get_of (codes name) params

-- the string at this name, or None
abbrev pub text_if_at : String → Node → Option (List ℕ)
text_if_at name params = option_and_then text_in (tree_if_at name params)

-- the js-uint at this name, or None
abbrev pub number_if_at : String → Node → Option ℕ
number_if_at name params = option_map natural (option_and_then whole_in (tree_if_at name params))

-- the items of the array at this name, or None
abbrev pub trees_if_at : String → Node → Option (List Node)
trees_if_at name params = option_map items_in (option_and_then list_in (tree_if_at name params))

-- the strings of the array at this name, or None
abbrev pub texts_if_at : String → Node → Option (List (List ℕ))
texts_if_at name params = option_map texts_among (trees_if_at name params)

-- there is an array of at least one string at this name, and of nothing but strings
abbrev pub has_texts_at : String → Node → Bool
has_texts_at name params =
    let ts = unwrap_or (trees_if_at name params) [] in
    nat_lt 0 (length ts) && list_all (λ t. is_some (text_in t)) ts

-- ---- members that are required

-- the string at this name
abbrev pub text_at : String → Node → List ℕ
text_at name params = unwrap_or (text_if_at name params) []

-- the strings of the array at this name
abbrev pub texts_at : String → Node → List (List ℕ)
texts_at name params = unwrap_or (texts_if_at name params) []

-- the js-uint at this name
abbrev pub number_at : String → Node → ℕ
number_at name params = unwrap_or (number_if_at name params) 0

-- the js-int at this name
abbrev pub whole_at : String → Node → ℤ
whole_at name params = unwrap_or (option_and_then whole_in (tree_if_at name params)) (pos 0)

-- ---- tables

-- the entry of a table for this string, or None
abbrev pub entry_at : {A : Type 0} → List (String × A) → List ℕ → Option A
entry_at [] text = None
entry_at (entry ∷ table) text = if bytes_eq (codes entry.0) text then Some entry.1 else entry_at table text
