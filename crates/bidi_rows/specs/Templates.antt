-- How the JSON of events that follow others is read. This project's own.
use Rattle.std.specs.Prelude.{◌≡◌, ◌≤◌, ℕ, true, List, [], ◌∷◌, length, codes, Some, ⊤}
use Rattle.json.specs.Json.{Json, array, Items, no_items, item, document}
use Rattle.json.specs.Print.{quoted}
use Rattle.bidi_rows.specs.Filling.{Template}
use Rattle.bidi_rows.specs.Reading.{most_bytes, event_names, has_only, string_at, object_at}

-- The value is JSON for this event with places: an object with a string `method`, an object `params`, and no other property.
pub record IsTemplate (j : Json) (t : Template) : Type 0 where
  pub name : List ℕ
  pub names : has_only event_names j ≡ true
  pub has_method : string_at (codes "method") j ≡ Some name
  pub has_params : object_at (codes "params") j ≡ Some t.params
  pub method : t.method ≡ quoted name

-- The items are JSON for these events with places, in order.
abbrev pub AreTemplates : Items → List Template → Type 0
AreTemplates no_items [] = ⊤
AreTemplates no_items (t ∷ ts) = ⊥
AreTemplates (item j js) [] = ⊥
AreTemplates (item j js) (t ∷ ts) = IsTemplate j t × AreTemplates js ts

-- The text is JSON for an array of these events with places.
pub record AreTemplateTexts (s : List ℕ) (ts : List Template) : Type 0 where
  pub items : Items
  pub few : length s ≤ most_bytes
  pub is_json : document s ≡ Some (array items)
  pub templates : AreTemplates items ts
