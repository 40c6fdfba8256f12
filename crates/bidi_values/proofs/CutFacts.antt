-- Worked examples of values that are cut, computed from the definition. After WebDriver BiDi, "The script.SerializationOptions Type".
use Prim.Native.String.{String}
use Rattle.std.proofs.Common.{◌≡◌, ℕ, List, [], ◌∷◌, Some, None, refl}
use Rattle.bidi_tree.specs.Node.{Node, no_members}
use Rattle.bidi_shape.proofs.ProfileFacts.{word, number, listed, mapped, ◌being◌and◌}
use Rattle.bidi_values.specs.Cut.{cut, cut_to}

-- ---- how the values are written

-- `{ "type": type }`
abbrev bare : String → Node
bare type = mapped ("type" being word type and no_members)

-- `{ "type": type, "value": [..] }`
abbrev full : String → List Node → Node
full type values = mapped ("type" being word type and "value" being listed values and no_members)

-- `{ "type": "number", "value": n }`
abbrev a_number : ℕ → Node
a_number n = mapped ("type" being word "number" and "value" being number n and no_members)

-- `[key, value]`
abbrev a_pair : Node → Node → Node
a_pair key value = listed (key ∷ value ∷ [])

-- `[1]`
abbrev an_array : Node
an_array = full "array" (a_number 1 ∷ [])

-- `{ a: [1] }`
abbrev an_object : Node
an_object = full "object" (a_pair (word "a") an_array ∷ [])

-- `{ "type": "regexp", "value": { "pattern": "a+", "flags": "g" }, "handle": "h" }`
abbrev a_reg_exp : Node
a_reg_exp = mapped (
    "type" being word "regexp" and
    "value" being mapped ("pattern" being word "a+" and "flags" being word "g" and no_members) and
    "handle" being word "h" and no_members)

-- ---- what is left

pub no_level_leaves_an_object_bare : cut 0 an_object ≡ bare "object"
no_level_leaves_an_object_bare = refl

pub one_level_leaves_what_an_object_holds_bare : cut 1 an_object ≡ full "object" (a_pair (word "a") (bare "array") ∷ [])
one_level_leaves_what_an_object_holds_bare = refl

-- a number holds no other value
pub two_levels_leave_it_whole : cut 2 an_object ≡ an_object
two_levels_leave_it_whole = refl

pub no_depth_leaves_it_whole : cut_to None an_object ≡ an_object
no_depth_leaves_it_whole = refl

pub a_depth_cuts_it : cut_to (Some 0) an_object ≡ bare "object"
a_depth_cuts_it = refl

pub a_key_is_cut_as_its_value_is : cut 1 (full "map" (a_pair an_array an_array ∷ [])) ≡ full "map" (a_pair (bare "array") (bare "array") ∷ [])
a_key_is_cut_as_its_value_is = refl

pub each_value_of_a_set_is_cut : cut 1 (full "set" (an_array ∷ a_number 2 ∷ an_object ∷ [])) ≡ full "set" (bare "array" ∷ a_number 2 ∷ bare "object" ∷ [])
each_value_of_a_set_is_cut = refl

pub a_number_stays : cut 0 (a_number 1) ≡ a_number 1
a_number_stays = refl

pub a_reg_exp_stays : cut 0 a_reg_exp ≡ a_reg_exp
a_reg_exp_stays = refl

pub names_stay
    : cut 0 (mapped ("type" being word "set" and "handle" being word "h" and "internalId" being word "i" and "value" being listed [] and no_members))
    ≡ mapped ("type" being word "set" and "handle" being word "h" and "internalId" being word "i" and no_members)
names_stay = refl
