use Rattle.std.proofs.Common.{◌≡◌, ℕ, List, map, take, string_bytes}
use Rattle.json.specs.Json.{Json}
use Rattle.json.specs.Value.{value_view}
use Rattle.bidi_rows.specs.Part.{part_of}
use Rattle.bidi_rows.proofs.part.+own.Given as goal

abbrev pub invariant-own_items-loop-item : goal.invariant-own_items-loop-item
invariant-own_items-loop-item l = map part_of l.parts.items ≡ map value_view (take l.item-index l.items.items)

abbrev pub invariant-own_members-loop-member : goal.invariant-own_members-loop-member
invariant-own_members-loop-member l =
    map {B = List ℕ × Json} (λ m. (string_bytes m.0, part_of m.1)) l.parts.items ≡ map {B = List ℕ × Json} (λ m. (m.0.now, value_view m.1)) (take l.member-index l.members.items)
