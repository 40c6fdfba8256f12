-- The effect of reads and writes on the bytes of a device, on its count of failures, and on its end. Defined by this project.
use Rattle.std.specs.Prelude.{◌≡◌, ℕ, ◌+◌, ◌<◌, ◌≤◌, ◌==◌, ◌&&◌, ◌||◌, Bool, nat_lt, List, ◌++◌, length, take, Option, Result, Ok, Err}
use Rattle.std.specs.Io.KnownBytes.{Appends, Consumes}
use Rattle.bidi_lines.specs.declared.device.Device.{Device}

-- the reader or the writer inside the device
abbrev pub inner_of : {T : Type 0} → Device T → T
inner_of d = d.inner

-- how often the device has failed
abbrev pub failures_of : {T : Type 0} → Device T → ℕ
failures_of d = d.failures.count

-- a read of the device has reported the end
abbrev pub has_told_end : {T : Type 0} → Device T → Bool
has_told_end d = d.has_ended

-- an error adds one failure, and an Ok adds none
abbrev pub CountsFailure : {T E : Type 0} → Result T E → ℕ → ℕ → Type 0
CountsFailure (Ok _) old new = new ≡ old
CountsFailure (Err _) old new = new ≡ old + 1

-- reading 0 bytes into a slice that is not empty reports the end, and no other read does
abbrev pub TellsEnd : {E : Type 0} → Result ℕ E → ℕ → Bool → Bool → Type 0
TellsEnd (Ok n) room old new = new ≡ (old || ((n == 0) && nat_lt 0 room))
TellsEnd (Err _) room old new = new ≡ old

-- a write takes at most the bytes that there are, and at least one if there is one
abbrev pub WritesSome : ℕ → ℕ → Type 0
WritesSome n room = (n ≤ room) × (0 < room → 0 < n)

-- the buffer has gained some bytes at its end; a source whose bytes are known has lost exactly these at its front
abbrev pub ReadsOn : Option (List ℕ) → Option (List ℕ) → List ℕ → List ℕ → Type 0
ReadsOn left left' buffer buffer' = (bytes : List ℕ) × (buffer' ≡ buffer ++ bytes) × Consumes left left' bytes

-- a sink whose bytes are known has gained a beginning of these bytes, but not all of them
abbrev pub AppendsBeginning : Option (List ℕ) → Option (List ℕ) → List ℕ → Type 0
AppendsBeginning held held' bytes = (n : ℕ) × (n < length bytes) × Appends held held' (take n bytes)

-- some bytes were read from a source and some were written to a sink, so far as their bytes are known, and P holds of the two
abbrev pub Moves : Option (List ℕ) → Option (List ℕ) → Option (List ℕ) → Option (List ℕ) → (List ℕ → List ℕ → Type 0) → Type 0
Moves left left' held held' P = (read : List ℕ) × (wrote : List ℕ) × Consumes left left' read × Appends held held' wrote × P read wrote
