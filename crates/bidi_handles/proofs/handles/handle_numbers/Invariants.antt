use Rattle.std.proofs.Common.{◌≡◌, ◌<◌, ◌^◌, ℕ, map, take}
use Rattle.std.specs.Prelude.{◌==◌, string_bytes}
use Rattle.std.specs.List.{list_any}
use Rattle.bidi_handles.specs.Ids.{has_id}
use Rattle.bidi_handles.proofs.handles.handle_numbers.Given as goal

abbrev pub invariant-loop-id : goal.invariant-loop-id
invariant-loop-id l = (n : ℕ) → n < 2 ^ 48 → list_any (λ m. m == n) l.numbers.items ≡ has_id (map string_bytes (take l.id-index l.ids)) n
