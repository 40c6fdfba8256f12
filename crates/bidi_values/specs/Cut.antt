-- Cutting a remote value: how many levels of values it tells. After WebDriver BiDi, "The script.SerializationOptions Type".
use Rattle.std.specs.Prelude.{ℕ, zero, suc, Bool, false, List, [], ◌∷◌, codes, bytes_eq, Option, Some, None, if◌then◌else◌}
use Rattle.std.specs.List.{list_any}
use Rattle.bidi_tree.specs.Node.{Node, null, boolean, whole, odd, text, list, map, Items, no_items, item, Members, no_members, member, get_member}

-- the tree is the string s
abbrev pub is_the_text : List ℕ → Option Node → Bool
is_the_text s (Some (text t)) = bytes_eq s t
is_the_text s t = false

-- the map has one of the four types that hold other values: array, set, object or map
abbrev pub holds_values : Members → Bool
holds_values ms =
    list_any (λ type. is_the_text type (get_member (codes "type") ms)) (codes "array" ∷ codes "set" ∷ codes "object" ∷ codes "map" ∷ [])

abbrev mutual
  -- the value with at most that many levels of values in it; at depth 0, what holds other values has no member `value`
  -- example: `{"type":"array","value":[{"type":"set","value":[]}]}` at 1 is `{"type":"array","value":[{"type":"set"}]}`
  pub cut : ℕ → Node → Node
  cut depth null = null
  cut depth (boolean b) = boolean b
  cut depth (whole z) = whole z
  cut depth odd = odd
  cut depth (text s) = text s
  cut depth (list ts) = list (cut_items depth ts)
  cut depth (map ms) = map (if holds_values ms then cut_members depth ms else ms)

  -- each item of a list, cut at that depth; a pair is a list, so its key and its value are cut alike
  pub cut_items : ℕ → Items → Items
  cut_items depth no_items = no_items
  cut_items depth (item t ts) = item (cut depth t) (cut_items depth ts)

  -- the members of a map that holds other values: at depth 0 without `value`, else with its `value` cut one level less deep
  pub cut_members : ℕ → Members → Members
  cut_members depth no_members = no_members
  cut_members zero (member k t ms) = if bytes_eq k (codes "value") then cut_members zero ms else member k t (cut_members zero ms)
  cut_members (suc depth) (member k t ms) = member k (if bytes_eq k (codes "value") then cut depth t else t) (cut_members (suc depth) ms)

-- the value cut at that depth, or the whole value if there is no depth
abbrev pub cut_to : Option ℕ → Node → Node
cut_to (Some depth) value = cut depth value
cut_to None value = value
