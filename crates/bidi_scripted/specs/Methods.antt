-- Which methods may have rows.
use Rattle.std.specs.Prelude.{◌≡◌, ℕ, Bool, true, false, List, get_or}
use Rattle.std.specs.List.{AllByRecursion}
use Rattle.bidi_rows.specs.Rows.{Row}
use Rattle.bidi_scripted.specs.Slots.{slot_of}
use Rattle.bidi_scripted.specs.declared.method_set.MethodSet.{MethodSet}

-- whether a method of the same slot was added to a set
abbrev pub has_method : MethodSet → List ℕ → Bool
has_method set method = get_or set.marks.items (slot_of method) false

-- The method of each of these rows was added to a set.
abbrev pub AreListed : MethodSet → List Row → Type 0
AreListed set rows = AllByRecursion (λ r. has_method set r.method ≡ true) rows
