-- Events that follow others: the places in their params, and what fills them. This project's own.
use Rattle.std.specs.Prelude.{ℕ, if◌then◌else◌, List, ◌++◌, codes, bytes_eq, Option, Some, None, option_map, string_bytes}
use Rattle.json.specs.Json.{Json, null, boolean, number, string, array, object, Items, no_items, item, Members, no_members, member}
use Rattle.bidi_rows.specs.declared.filling.Filling as declared_filling
use Rattle.bidi_rows.specs.declared.template.Template as declared_template
use Rattle.bidi_rows.specs.Part.{part_of}
use Rattle.bidi_rows.specs.Reading.{context_in, string_at}
use Rattle.bidi_rows.specs.Rows.{compact}

-- What fills the places: the context, the navigation and the URL of the event before, as far as its params say them.
pub record Filling : Type 0 where
  pub context : Option (List ℕ)
  pub navigation : Option (List ℕ)
  pub url : Option (List ℕ)

-- An event with places: its method as JSON text, and its params.
pub record Template : Type 0 where
  pub method : List ℕ
  pub params : Json

-- what the params of an event say of its context, its navigation and its URL
abbrev pub filling_of : Json → Filling
filling_of params = record { context = context_in params; navigation = string_at (codes "navigation") params; url = string_at (codes "url") params }

-- a string, or null if there is none
abbrev pub or_null : Option (List ℕ) → Json
or_null None = null
or_null (Some s) = string s

-- what stands for a string: `$context`, `$navigation` and `$url` are places
abbrev pub text_for : Filling → List ℕ → Json
text_for f s =
    if bytes_eq s (codes "$context") then or_null f.context
    else if bytes_eq s (codes "$navigation") then or_null f.navigation
    else if bytes_eq s (codes "$url") then or_null f.url
    else string s

-- the value with its places filled, at every depth
-- example: with the context `c`, `{"a":["$context"]}` becomes `{"a":["c"]}`
abbrev mutual
  pub filled : Filling → Json → Json
  filled f null = null
  filled f (boolean b) = boolean b
  filled f (number s) = number s
  filled f (string s) = text_for f s
  filled f (array js) = array (filled_items f js)
  filled f (object ms) = object (filled_members f ms)

  -- the items with their places filled
  pub filled_items : Filling → Items → Items
  filled_items f no_items = no_items
  filled_items f (item j js) = item (filled f j) (filled_items f js)

  -- the members with the places of their values filled
  pub filled_members : Filling → Members → Members
  filled_members f no_members = no_members
  filled_members f (member k j ms) = member k (filled f j) (filled_members f ms)

-- the message of an event with its places filled
abbrev pub filled_text : Filling → Template → List ℕ
filled_text f t = codes "{\"method\":" ++ (t.method ++ (codes ",\"params\":" ++ (compact (filled f t.params) ++ codes ",\"type\":\"event\"}")))

-- ---- in the code

-- the filling, with the bytes of its strings
abbrev pub filling_in : declared_filling.Filling → Filling
filling_in f = record { context = option_map (λ s. s.now) f.context; navigation = option_map (λ s. s.now) f.navigation; url = option_map (λ s. s.now) f.url }

-- the event with places, with the bytes of its method
abbrev pub template_of : declared_template.Template → Template
template_of t = record { method = string_bytes t.method; params = part_of t.params }
