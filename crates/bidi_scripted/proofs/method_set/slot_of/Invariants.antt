use Rattle.std.proofs.Common.{◌≡◌, ◌<◌, drop}
use Rattle.bidi_scripted.specs.Slots.{slot_from, slot_of, slots}
use Rattle.bidi_scripted.proofs.method_set.slot_of.Given as goal

-- the bytes that are left lead from the slot so far to the slot of the method
abbrev pub invariant-loop-byte : goal.invariant-loop-byte
invariant-loop-byte l = (slot_from l.slot (drop l.byte-index l.method) ≡ slot_of l.method) × (l.slot < slots)
