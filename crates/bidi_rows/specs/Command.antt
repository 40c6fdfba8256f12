-- The commands that rows are asked about. After WebDriver BiDi, "Protocol".
use Rattle.std.specs.Prelude.{ℕ, ℤ, pos, negsuc, List, codes, Option, Some, None, option_and_then}
use Rattle.json.specs.Json.{Json, document}
use Rattle.json.specs.Find.{get, as_number, as_str}
use Rattle.serde_json.specs.Read.{number_of}
use Rattle.bidi_tree.specs.Json.{number_in}
use Rattle.bidi_tree.specs.Kind.{whole_in}

-- A command, as rows see it: its id, its method and its params, which may be missing.
pub record Command : Type 0 where
  pub id : ℕ
  pub method : List ℕ
  pub params : Option Json

-- a whole number that is not below 0
abbrev pub natural : ℤ → Option ℕ
natural (pos n) = Some n
natural (negsuc n) = None

-- the js-uint that the text of a number writes
-- example: `1.0` and `-1` write none
abbrev pub js_uint : List ℕ → Option ℕ
js_uint s = option_and_then natural (whole_in (number_in (number_of s)))

-- the command of this id and method with these params, if there are both
abbrev pub command_with : Option ℕ → Option (List ℕ) → Option Json → Option Command
command_with (Some id) (Some method) params = Some (record { id = id; method = method; params = params })
command_with id method params = None

-- the command that a JSON value is: an object with a js-uint `id` and a string `method`
abbrev pub command_in : Json → Option Command
command_in j =
    command_with (option_and_then js_uint (option_and_then as_number (get (codes "id") j)))
    (option_and_then as_str (get (codes "method") j)) (get (codes "params") j)

-- the command that a text is, if it is JSON for one
abbrev pub command_of : List ℕ → Option Command
command_of s = option_and_then command_in (document s)
