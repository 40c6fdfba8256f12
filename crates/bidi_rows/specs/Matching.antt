-- How a test says which commands a row is for: by the method, and by a part of the params. This project's own.
use Rattle.std.specs.Prelude.{ℕ, Bool, true, false, not, ◌&&◌, ◌||◌, if◌then◌else◌, List, [], ◌∷◌, eqb, codes, bytes_eq, Option, Some, None}
use Rattle.std.specs.List.{starts_with}
use Rattle.json.specs.Json.{Json, null, boolean, number, string, array, object, Items, no_items, item, Members, no_members, member}
use Rattle.json.specs.Find.{get, is_null, as_bool, as_number, as_str}

-- whether the second string occurs in the first
abbrev pub contains : List ℕ → List ℕ → Bool
contains [] t = starts_with eqb [] t
contains (x ∷ s) t = starts_with eqb (x ∷ s) t || contains s t

-- whether a string passes a test: `$starts`, it starts with this string, or `$contains`, it contains this string
abbrev pub passes : List ℕ → List ℕ → Option (List ℕ) → Bool
passes s name None = false
passes s name (Some t) =
    if bytes_eq name (codes "$starts") then starts_with eqb s t
    else if bytes_eq name (codes "$contains") then contains s t
    else false

-- whether each property is a test that the string passes
abbrev pub passes_each : List ℕ → Members → Bool
passes_each s no_members = true
passes_each s (member name t ms) = passes s name (as_str t) && passes_each s ms

-- whether a string passes the tests of an object such as `{"$starts": T}` or `{"$contains": T}`, which has at least one
abbrev pub passes_all : List ℕ → Members → Bool
passes_all s no_members = false
passes_all s (member name t ms) = passes_each s (member name t ms)

-- whether there is a Boolean, and it is this one
abbrev pub is_bool : Bool → Option Bool → Bool
is_bool b None = false
is_bool b (Some c) = if b then c else not c

-- whether there is a string, and it is this one
abbrev pub is_text : List ℕ → Option (List ℕ) → Bool
is_text s None = false
is_text s (Some t) = bytes_eq s t

-- whether there is a property, and it passes the test
abbrev pub is_property : (Json → Bool) → Option Json → Bool
is_property test None = false
is_property test (Some v) = test v

-- whether a part is found in a value: an object by the properties that it names, an array by its first items, a string by equality or by a
-- test, and anything else by equality, where two numbers are equal if they are written alike
-- example: `{"a":{"$starts":"x"}}` is found in `{"b":1,"a":"xy"}`
abbrev mutual
  pub is_found : Json → Json → Bool
  is_found null v = is_null v
  is_found (boolean b) v = is_bool b (as_bool v)
  is_found (number s) v = is_text s (as_number v)
  is_found (string s) v = is_text s (as_str v)
  is_found (array ps) null = false
  is_found (array ps) (boolean b) = false
  is_found (array ps) (number s) = false
  is_found (array ps) (string s) = false
  is_found (array ps) (array vs) = are_first ps vs
  is_found (array ps) (object vs) = false
  is_found (object ps) null = false
  is_found (object ps) (boolean b) = false
  is_found (object ps) (number s) = false
  is_found (object ps) (string s) = passes_all s ps
  is_found (object ps) (array vs) = false
  is_found (object ps) (object vs) = are_properties ps (object vs)

  -- whether each of these parts is found in the item at its place
  pub are_first : Items → Items → Bool
  are_first no_items vs = true
  are_first (item p ps) no_items = false
  are_first (item p ps) (item v vs) = is_found p v && are_first ps vs

  -- whether each of these parts is found in the property of its name
  pub are_properties : Members → Json → Bool
  are_properties no_members v = true
  are_properties (member name p ps) v = is_property (is_found p) (get name v) && are_properties ps v

-- whether a part, if there is one, is found in these params
abbrev pub is_part : Option Json → Option Json → Bool
is_part None params = true
is_part (Some part) params = is_property (is_found part) params
