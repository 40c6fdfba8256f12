use Rattle.std.proofs.Common.{◌≡◌, drop}
use Rattle.std.specs.Prelude.{IfSome}
use Rattle.json.specs.Value.{value_view, items_view}
use Rattle.bidi_rows.specs.Index.{IsIndexOf}
use Rattle.bidi_rows.specs.Matching.{are_first, are_properties}
use Rattle.bidi_rows.specs.Part.{parts_of, members_of}
use Rattle.bidi_rows.proofs.matching.+found.Given as goal

abbrev pub invariant-are_first-loop-i : goal.invariant-are_first-loop-i
invariant-are_first-loop-i l =
    are_first (parts_of l.parts.items) (items_view l.items.items) ≡ are_first (parts_of (drop l.i l.parts.items)) (items_view (drop l.i l.items.items))

abbrev pub invariant-are_properties-loop-i : goal.invariant-are_properties-loop-i
invariant-are_properties-loop-i l = record {
  so_far : are_properties (members_of l.parts.items) (value_view l.value) ≡ are_properties (members_of (drop l.i l.parts.items)) (value_view l.value);
  indexed : IfSome l.index (λ index. IsIndexOf index (value_view l.value));
}
