-- The properties of an object by their names. This project's own.
use Rattle.std.specs.Prelude.{◌≡◌, ℕ, List, option_map}
use Rattle.std.specs.Borrow.{Bor}
use Rattle.std.specs.Cmp.Lexicographic.{slice_cmp}
use Rattle.std.specs.Ordering.{nat_cmp}
use Rattle.std.specs.BTreeMap.{BTreeMap, get_by}
use Rattle.std.specs.declared.alloc.Global.{Global}
use Rattle.json.specs.Json.{Json}
use Rattle.json.specs.Find.{get}
use Rattle.json.specs.Value.{value_view}
use Rattle.json.specs.declared.value.Value.{Value}

-- The map finds, at each name, the property that the JSON value has there.
abbrev pub IsIndexOf : BTreeMap (Bor (List ℕ)) (Bor (Value Global)) → Json → Type 0
IsIndexOf index j = (name : List ℕ) → option_map (λ v. value_view v.now) (get_by (λ k. slice_cmp nat_cmp name k.now) index) ≡ get name j
