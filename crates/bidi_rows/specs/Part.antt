-- The JSON value of a part in the code.
use Rattle.std.specs.Prelude.{List, [], ◌∷◌, map, String, string_bytes}
use Rattle.std.specs.declared.alloc.Global.{Global}
use Rattle.json.specs.Json.{Json, null, boolean, number, string, array, object, Members, no_members, member, Items}
use Rattle.json.specs.Value as value
use Rattle.bidi_rows.specs.declared.part.Part.{Part, fold-Part}
use Rattle.bidi_rows.specs.declared.part.Part.TheOpen.{Part-F}

-- some values under their names as the members of an object
abbrev pub named : List (String Global × Json) → Members
named [] = no_members
named (m ∷ ms) = member (string_bytes m.0) m.1 (named ms)

-- the value of a part whose inner parts are given by their values
abbrev pub part_step : Part-F Json → Json
part_step Part-F.Null = null
part_step (Part-F.Bool b) = boolean b
part_step (Part-F.Number s) = number (string_bytes s)
part_step (Part-F.String s) = string (string_bytes s)
part_step (Part-F.Array v) = array (value.items_of v.items)
part_step (Part-F.Object v) = object (named v.items)

-- the value of a part
abbrev pub part_of : Part → Json
part_of = fold-Part Json part_step

-- the values of some parts, as the items of an array
abbrev pub parts_of : List Part → Items
parts_of ps = value.items_of (map part_of ps)

-- the values of some named parts, as the members of an object
abbrev pub members_of : List (String Global × Part) → Members
members_of ms = named (map (λ m. (m.0, part_of m.1)) ms)
