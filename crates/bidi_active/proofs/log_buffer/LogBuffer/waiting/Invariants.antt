use Rattle.std.proofs.Common.{◌≡◌, ◌++◌, map, drop}
use Rattle.bidi_active.specs.Written.{written_in, place_row}
use Rattle.bidi_active.specs.Places.{waiting}
use Rattle.bidi_active.proofs.log_buffer.LogBuffer.waiting.Given as goal

-- those that wait in the places that were looked at were added
abbrev pub invariant-loop-at : goal.invariant-loop-at
invariant-loop-at l = waiting (map place_row l.self.places.items) ≡ written_in l.all.items ++ waiting (map place_row (drop l.at l.self.places.items))
