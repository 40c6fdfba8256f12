-- The parts of a value that was read have numbers that can be written.
use Rattle.std.proofs.Common.{◌≡◌, ℕ, List, Option, Some, None, sym, ap}
use Rattle.std.specs.Prelude.{IfSome, option_map, option_and_then}
use Rattle.json.specs.Json.{Json, null, boolean, number, string, array, object}
use Rattle.json.specs.Find.{get}
use Rattle.json.specs.Tree.{HasNumbers}
use Rattle.json.proofs.Numbered.{HasNumbers-get}
use Rattle.bidi_rows.specs.Reading.{object_in, object_at}

object_same : (j part : Json) → object_in j ≡ Some part → j ≡ part
object_same null part e = cc
object_same (boolean b) part e = cc
object_same (number s) part e = cc
object_same (string s) part e = cc
object_same (array js) part e = cc
object_same (object ms) part e = cc

found_object : (o : Option Json) (part : Json) → option_and_then object_in o ≡ Some part → o ≡ Some part
found_object None part e = cc
found_object (Some j) part e = ap Some (object_same j part e)

-- an object at a name
pub object_numbers : (name : List ℕ) (j part : Json) → object_at name j ≡ Some part → HasNumbers j → HasNumbers part
object_numbers name j part e h = HasNumbers-get name j part h (sym (found_object (get name j) part e))

-- any property
pub property_numbers : {X : Type 0} (view : X → Json) (o : Option X) (name : List ℕ) (j : Json) → option_map view o ≡ get name j → HasNumbers j
    → IfSome o (λ x. HasNumbers (view x))
property_numbers view None name j e h = tt
property_numbers view (Some x) name j e h = HasNumbers-get name j (view x) h e
