-- The contents of a `Sorted`. Defined by this project.
use Rattle.std.specs.Prelude.{List}
use Rattle.std.specs.declared.cmp.Ord as ord
use Rattle.std.specs.declared.cmp.PartialEq as equality
use Rattle.std.specs.declared.cmp.PartialOrd as partial_order
use Rattle.bidi_tree.specs.declared.sorted.Sorted.{Sorted}

-- the entries of a `Sorted`, in the order of their keys
abbrev pub entries_of : {K V : Type 0} {o : ord.Ghosts K} {e : equality.Ghosts K} {p : partial_order.Ghosts K} → Sorted K V o e p → List (K × V)
entries_of s = s.entries.items
