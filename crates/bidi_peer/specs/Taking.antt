-- What a connection makes of the frames that came. RFC 6455, 5.4 to 5.6 and 7, says what a frame does.
use Rattle.std.specs.Prelude.{◌≡◌, ◌<◌, ◌+◌, ◌-◌, ◌^◌, ◌⊎◌, min, ℕ, List, ◌++◌, Option, None, Some, Result, Ok, Err, drop, length, string_bytes, ⊤}
use Rattle.std.specs.Io.KnownBytes.{Consumes, IsAtEnd}
use Rattle.websocket.specs.Connection.{Connection, Effect, failed_connection}
use Rattle.websocket.specs.Content.{Content, binary, close, ping, pong, text}
use Rattle.websocket.specs.FrameHeader.{decode_header}
use Rattle.websocket.specs.declared.protocol.frame.header.FrameHeader.{FrameHeader}
use Rattle.websocket.specs.declared.error.Error.{Error}
use Rattle.websocket.specs.declared.error.Error.TheVariants.{AlreadyClosed, Capacity, ConnectionClosed, OutOfMemory, Protocol, Utf8}
use Rattle.websocket.specs.declared.protocol.frame.codec.FrameStatus.{FrameStatus}
use Rattle.websocket.specs.declared.protocol.frame.codec.FrameStatus.TheVariants.{Complete, Partial}
use Rattle.bidi_peer.specs.Hearing.{Receives}
use Rattle.bidi_peer.specs.Messages.{reply_bytes}
use Rattle.bidi_peer.specs.Sending.{Flushes}
use Rattle.bidi_peer.specs.Telling.{HasFailed}
use Rattle.bidi_peer.specs.Waiting.{Writes, untaken, unwritten}
use Rattle.bidi_peer.specs.declared.framing.Fault.{Fault}
use Rattle.bidi_peer.specs.declared.framing.Fault.TheVariants as fault
use Rattle.bidi_peer.specs.declared.framing.Frame.{Frame}
use Rattle.bidi_peer.specs.declared.framing.Frame.TheVariants as frame
use Rattle.bidi_peer.specs.declared.peer.Came.{Came}
use Rattle.bidi_peer.specs.declared.peer.Came.TheVariants as telling
use Rattle.bidi_peer.specs.declared.standing.Peer.{Peer}

-- What a frame with this message is taken for: a text is taken with its own bytes.
abbrev pub Shows : Option Content → Frame → Type 0
Shows None (frame.Fragment n) = ⊤
Shows (Some (text bytes)) (frame.Text s) = string_bytes s ≡ bytes
Shows (Some (binary bytes)) frame.NotText = ⊤
Shows (Some (ping bytes)) frame.Control = ⊤
Shows (Some (pong bytes)) frame.Control = ⊤
Shows (Some (close reason)) frame.Close = ⊤
Shows message f = ⊥

-- The fault of a frame that the protocol refuses: a text is not UTF-8, a limit is passed, or the frame breaks the protocol.
abbrev pub IsFaultOf : Error → Fault → Type 0
IsFaultOf Utf8 f = f ≡ fault.NotUtf8
IsFaultOf (Capacity cause) f = f ≡ fault.TooLong
IsFaultOf OutOfMemory f = ⊥
IsFaultOf (Protocol cause) f = f ≡ fault.Protocol
IsFaultOf ConnectionClosed f = f ≡ fault.Protocol
IsFaultOf AlreadyClosed f = f ≡ fault.Protocol

-- What a read of the protocol is taken for.
abbrev pub IsTakenFor : Result (FrameStatus (ℕ × Effect)) Error → Frame → Type 0
-- no whole frame is there
IsTakenFor (Ok (Partial n)) frame.Part = ⊤
IsTakenFor (Ok (Partial n)) f = ⊥
-- a frame that did this
IsTakenFor (Ok (Complete p)) f = Shows p.1.message f
-- a frame that fails the connection
IsTakenFor (Err e) (frame.Bad f) = IsFaultOf e f
IsTakenFor (Err e) f = ⊥

-- What a read of the protocol leaves: the frame is taken off the front of the bytes, and its reply follows what waited to be written.
abbrev pub HasTaken : Result (FrameStatus (ℕ × Effect)) Error → Connection → List ℕ → List ℕ → Connection → List ℕ → List ℕ → Type 0
HasTaken (Ok (Partial n)) c bytes waited d left waits = (d ≡ c) × (left ≡ bytes) × (waits ≡ waited)
HasTaken (Ok (Complete p)) c bytes waited d left waits = (d ≡ p.1.next) × (left ≡ drop p.0 bytes) × (waits ≡ waited ++ reply_bytes p.1.reply)
HasTaken (Err e) c bytes waited d left waits = (d ≡ failed_connection c) × (waits ≡ waited)

-- how many bytes of payload of an unfinished message there are after a frame, if there were so many before it, as far as a number of 64 bits counts them
abbrev pub unfinished_after : Frame → ℕ → ℕ
unfinished_after (frame.Fragment n) before = min (before + n) (2 ^ 64 - 1)
unfinished_after (frame.Text t) before = 0
unfinished_after frame.NotText before = 0
unfinished_after (frame.Bad f) before = 0
unfinished_after f before = before

-- A frame that is a part of a message has so many bytes of payload.
abbrev pub HasPayload : ℕ → Frame → Type 0
HasPayload n (frame.Fragment k) = k ≡ n
HasPayload n f = ⊤

-- A part of a message has as many as the header at the front of the bytes says.
abbrev pub CountsPart : List ℕ → Frame → Type 0
CountsPart bytes f = (h : FrameHeader) (n : ℕ) → decode_header bytes ≡ Ok (Some (h, n)) → HasPayload n f

-- No frame follows this one: it is a close frame, or it fails the connection.
abbrev pub IsLast : Frame → Type 0
IsLast frame.Close = ⊤
IsLast (frame.Bad f) = ⊤
IsLast f = ⊥

module _ {S : Type 0} where
  -- What is reported if a read gave no more bytes: nothing for now, or the end.
  abbrev pub IsWaited : (S → Option (List ℕ)) → Peer S → Peer S → Came → Type 0
  IsWaited remaining old new telling.Nothing = Receives remaining old new × (untaken new.inbox ≡ untaken old.inbox)
  IsWaited remaining old new telling.Ended =
      HasFailed new.state
      ⊎ ((came : List ℕ) × Consumes (remaining old.stream) (remaining new.stream) came × (untaken old.inbox ++ came ≡ untaken old.inbox) × IsAtEnd (remaining new.stream))
  IsWaited remaining old new c = ⊥

  -- The stream took some bytes off the front of what waited, and the rest is more than may wait.
  pub record IsSlow (contents : S → Option (List ℕ)) (old : Peer S) : Type 0 where
    pub rest : List ℕ
    pub stream : S
    pub writes : Writes contents (unwritten old.outbox) rest old.stream stream
    pub full : old.most_waiting < length rest

  -- What an open connection makes of a frame.
  abbrev pub IsReceived : (S → Option (List ℕ)) → (S → Option (List ℕ)) → Frame → Peer S → Peer S → Option Came → Type 0
  -- no whole frame is there: the stream is read
  IsReceived remaining contents frame.Part old new None = Receives remaining old new
  IsReceived remaining contents frame.Part old new (Some c) = IsWaited remaining old new c
  -- a frame that reports nothing: its reply is written, and the connection ends if too much waits
  IsReceived remaining contents frame.Control old new None = HasFailed new.state ⊎ Flushes contents old new
  IsReceived remaining contents frame.Control old new (Some c) = (c ≡ telling.Ended) × IsSlow contents old
  IsReceived remaining contents (frame.Fragment n) old new None = HasFailed new.state ⊎ Flushes contents old new
  IsReceived remaining contents (frame.Fragment n) old new (Some c) = (c ≡ telling.Ended) × IsSlow contents old
  -- a message is reported
  IsReceived remaining contents (frame.Text t) old new came = (came ≡ Some (telling.Text t)) × (new ≡ old)
  IsReceived remaining contents frame.NotText old new came = (came ≡ Some telling.NotText) × (new ≡ old)
  -- after a close frame and after a fault the connection ends
  IsReceived remaining contents frame.Close old new came = came ≡ Some telling.Ended
  IsReceived remaining contents (frame.Bad f) old new came = came ≡ Some telling.Ended

  -- What a closing connection makes of a frame.
  abbrev pub IsPassed : (S → Option (List ℕ)) → (S → Option (List ℕ)) → Frame → Peer S → Peer S → Option Came → Type 0
  -- no whole frame is there: the stream is read
  IsPassed remaining contents frame.Part old new None = Receives remaining old new
  IsPassed remaining contents frame.Part old new (Some c) = IsWaited remaining old new c
  -- a ping, a pong and a part of a message: what waits is written
  IsPassed remaining contents frame.Control old new came = (came ≡ None) × (HasFailed new.state ⊎ Flushes contents old new)
  IsPassed remaining contents (frame.Fragment n) old new came = (came ≡ None) × (HasFailed new.state ⊎ Flushes contents old new)
  -- a message is not reported
  IsPassed remaining contents (frame.Text t) old new came = (came ≡ None) × (new ≡ old)
  IsPassed remaining contents frame.NotText old new came = (came ≡ None) × (new ≡ old)
  -- after a close frame and after a fault the end is reported
  IsPassed remaining contents frame.Close old new came = came ≡ Some telling.Ended
  IsPassed remaining contents (frame.Bad f) old new came = came ≡ Some telling.Ended
