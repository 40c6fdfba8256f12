-- The compact text of a tree is that of its data.
use Rattle.std.proofs.Common.{◌≡◌, suc, max, pos, negsuc, ◌∷◌, ◌++◌, Bool, true, false, refl, ap, ap₂}
use Rattle.std.proofs.lemmas.Bool.{or_parts}
use Rattle.json.specs.Print.{quoted}
use Rattle.serde_json.specs.Data.{depth, items_depth, members_depth}
use Rattle.serde_json.specs.Written as json
use Rattle.bidi_tree.specs.Node.{Node, null, boolean, whole, odd, text, list, map, Items, no_items, item, Members, no_members}
use Rattle.bidi_tree.specs.Node.{member, levels, items_levels, members_levels, has_odd, items_have_odd, members_have_odd}
use Rattle.bidi_tree.specs.Data.{to_data, to_items, to_members}
use Rattle.bidi_tree.specs.Text.{comma_if, compact_text, items_text, members_text}

mutual
  pub depth-to_data : (n : Node) → depth (to_data n) ≡ levels n
  depth-to_data null = refl
  depth-to_data (boolean b) = refl
  depth-to_data (whole z) = refl
  depth-to_data odd = refl
  depth-to_data (text s) = refl
  depth-to_data (list ns) = ap suc (items_depth-to_items ns)
  depth-to_data (map ms) = ap suc (members_depth-to_members ms)

  items_depth-to_items : (ns : Items) → items_depth (to_items ns) ≡ items_levels ns
  items_depth-to_items no_items = refl
  items_depth-to_items (item n ns) = ap₂ max (depth-to_data n) (items_depth-to_items ns)

  members_depth-to_members : (ms : Members) → members_depth (to_members ms) ≡ members_levels ms
  members_depth-to_members no_members = refl
  members_depth-to_members (member k n ms) = ap₂ max (depth-to_data n) (members_depth-to_members ms)

mutual
  pub compact_text-to_data : (n : Node) → has_odd n ≡ false → json.compact_text (to_data n) ≡ compact_text n
  compact_text-to_data null h = refl
  compact_text-to_data (boolean true) h = refl
  compact_text-to_data (boolean false) h = refl
  compact_text-to_data (whole (pos n)) h = refl
  compact_text-to_data (whole (negsuc n)) h = refl
  compact_text-to_data odd h = cc
  compact_text-to_data (text s) h = refl
  compact_text-to_data (list ns) h = ap (λ s. 91 ∷ s) (items_text-to_items false ns h)
  compact_text-to_data (map ms) h = ap (λ s. 123 ∷ s) (members_text-to_members false ms h)

  items_text-to_items : (later : Bool) (ns : Items) → items_have_odd ns ≡ false → json.items_text later (to_items ns) ≡ items_text later ns
  items_text-to_items later no_items h = refl
  items_text-to_items later (item n ns) h =
      let p = or_parts (has_odd n) _ h in
      ap₂ (λ a b. comma_if later ++ (a ++ b)) (compact_text-to_data n p.0) (items_text-to_items true ns p.1)

  members_text-to_members : (later : Bool) (ms : Members) → members_have_odd ms ≡ false → json.members_text later (to_members ms) ≡ members_text later ms
  members_text-to_members later no_members h = refl
  members_text-to_members later (member k n ms) h =
      let p = or_parts (has_odd n) _ h in
      ap₂ (λ a b. comma_if later ++ (quoted k ++ 58 ∷ (a ++ b))) (compact_text-to_data n p.0) (members_text-to_members true ms p.1)
