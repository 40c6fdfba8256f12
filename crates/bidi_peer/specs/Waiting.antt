-- What waits in a connection: bytes that came, and bytes to be written.
use Rattle.std.specs.Prelude.{◌≡◌, ◌<◌, ℕ, ◌+◌, ◌-◌, List, ◌++◌, Option, None, Some, drop, length, slice_range, nat_lt, if◌then◌else◌, vec_len, vec_capacity}
use Rattle.std.specs.Io.KnownBytes.{Appends, Consumes, IsAtEnd}
use Rattle.websocket.specs.declared.protocol.incomplete.MessageType.{MessageType}
use Rattle.bidi_peer.specs.declared.inbox.Filled.{Filled}
use Rattle.bidi_peer.specs.declared.inbox.Filled.TheVariants as filled
use Rattle.bidi_peer.specs.declared.waiting.Inbox.{Inbox}
use Rattle.bidi_peer.specs.declared.waiting.Outbox.{Outbox}

-- the bytes that came and are not taken yet
abbrev pub untaken : Inbox → List ℕ
untaken i = slice_range i.bytes.items i.start i.end

-- the bytes that wait to be written
abbrev pub unwritten : Outbox → List ℕ
unwritten o = drop o.sent o.first.items ++ o.second.items

-- how many bytes came of a message whose end has not come, if the protocol keeps these
abbrev pub payload_of : Option (MessageType × List ℕ) → ℕ
payload_of None = 0
payload_of (Some part) = length part.1

-- the bytes of memory that a block of this size counts for, if so many bytes wait in it: one of at most 64 KiB may be kept for later, and counts by what waits
abbrev pub counted : ℕ → ℕ → ℕ
counted waiting size = if nat_lt 65536 size then size else waiting

-- the bytes of memory that count for what came
abbrev pub held_in : Inbox → ℕ
held_in i = counted (i.end - i.start) (vec_capacity i.bytes)

-- the bytes of memory that count for what is to be written
abbrev pub held_out : Outbox → ℕ
held_out o = counted (vec_len o.first - o.sent) (vec_capacity o.first) + counted (vec_len o.second) (vec_capacity o.second)

module _ {S : Type 0} where
  -- The stream took some bytes off the front of what waited, and the rest still waits.
  pub record Writes (contents : S → Option (List ℕ)) (waited : List ℕ) (left : List ℕ) (old new : S) : Type 0 where
    pub went : List ℕ
    pub parts : waited ≡ went ++ left
    pub taken : Appends (contents old) (contents new) went

  -- The stream gave some bytes, and they follow what waited.
  pub record Reads (remaining : S → Option (List ℕ)) (waited : List ℕ) (left : List ℕ) (old new : S) : Type 0 where
    pub came : List ℕ
    pub joins : left ≡ waited ++ came
    pub given : Consumes (remaining old) (remaining new) came

-- What a read did to the bytes that wait: there are more of them, or they are unchanged; at the end the stream has nothing left.
abbrev pub IsFilled : Option (List ℕ) → List ℕ → List ℕ → Filled → Type 0
IsFilled rest waited left filled.Some = length waited < length left
IsFilled rest waited left filled.Nothing = left ≡ waited
IsFilled rest waited left filled.Ended = (left ≡ waited) × IsAtEnd rest
IsFilled rest waited left (filled.Failed failure) = left ≡ waited
