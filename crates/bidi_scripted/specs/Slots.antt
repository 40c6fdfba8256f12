-- The slots of methods. The numbers are this project's own.
use Rattle.std.specs.Prelude.{ℕ, ◌+◌, ◌*◌, ◌%◌, List, [], ◌∷◌}

-- how many slots there are
abbrev pub slots : ℕ
slots = 65536

-- the slot after some more bytes of a method
abbrev pub slot_from : ℕ → List ℕ → ℕ
slot_from slot [] = slot
slot_from slot (byte ∷ bytes) = slot_from ((slot * 31 + byte) % slots) bytes

-- the slot of a method
abbrev pub slot_of : List ℕ → ℕ
slot_of method = slot_from 0 method
