-- What a connection sends, in frames of RFC 6455, 5.2. A server's frame has no mask.
use Rattle.std.specs.Prelude.{◌≡◌, ◌<◌, ◌≤◌, ◌⊎◌, ◌+◌, ℕ, List, [], ◌++◌, length, None, Option, Result, Some}
use Rattle.std.specs.declared.io.ErrorKind.{ErrorKind}
use Rattle.websocket.specs.Connection.{whole_header}
use Rattle.websocket.specs.Content.{close_payload}
use Rattle.websocket.specs.Frame.{encode_frame}
use Rattle.websocket.specs.declared.protocol.frame.coding.CloseCode.{CloseCode}
use Rattle.websocket.specs.declared.protocol.frame.coding.Control.TheVariants.{Close}
use Rattle.websocket.specs.declared.protocol.frame.coding.Data.TheVariants.{Binary, Text}
use Rattle.websocket.specs.declared.protocol.frame.coding.OpCode.TheVariants.{Control, Data}
use Rattle.bidi_peer.specs.declared.standing.Peer.{Peer}
use Rattle.bidi_peer.specs.declared.standing.State.TheVariants.{Closing}
use Rattle.bidi_peer.specs.Closing.{code_of, reason_of}
use Rattle.bidi_peer.specs.Streams.{Blocked}
use Rattle.bidi_peer.specs.Telling.{HasFailed}
use Rattle.bidi_peer.specs.declared.framing.Fault.TheVariants.{Slow}
use Rattle.bidi_peer.specs.Waiting.{Writes, untaken, unwritten}

-- so many bytes wait before they are written
abbrev pub write_from : ℕ
write_from = 65536

-- the frame of a text
abbrev pub text_frame : List ℕ → List ℕ
text_frame text = encode_frame (whole_header (Data Text) None) text

-- the frame of a binary message
abbrev pub bytes_frame : List ℕ → List ℕ
bytes_frame bytes = encode_frame (whole_header (Data Binary) None) bytes

-- the close frame with a code and a reason
abbrev pub close_frame : CloseCode → List ℕ → List ℕ
close_frame code reason = encode_frame (whole_header (Control Close) None) (close_payload (Some (code, reason)))

module _ {S : Type 0} where
  -- The state of the protocol and the bytes that came are unchanged.
  pub record KeepsWhatCame (old new : Peer S) : Type 0 where
    pub context : new.context ≡ old.context
    pub bytes : untaken new.inbox ≡ untaken old.inbox

  -- The stream took some bytes off the front of what waited; nothing else that is to be sent or was received has changed.
  pub record Flushes (contents : S → Option (List ℕ)) (old new : Peer S) : Type 0 where
    pub state : new.state ≡ old.state
    pub context : new.context ≡ old.context
    pub inbox : untaken new.inbox ≡ untaken old.inbox
    pub least : new.least ≡ old.least
    pub bound : new.most_waiting ≡ old.most_waiting
    pub writes : Writes contents (unwritten old.outbox) (unwritten new.outbox) old.stream new.stream

  -- The stream failed, nothing waits any more, or the last call of the stream was a write that took nothing for now.
  abbrev pub IsFlushed : (S → Result ℕ ErrorKind → S → Type 0) → Peer S → Type 0
  IsFlushed writes new = HasFailed new.state ⊎ ((unwritten new.outbox ≡ []) ⊎ Blocked writes new.stream)

  -- A frame, or bytes without one, follow what waited, the stream took nothing, and the bytes that came are unchanged.
  pub record PutsFrame (frame : List ℕ) (old new : Peer S) : Type 0 where
    pub stream : new.stream ≡ old.stream
    pub came : KeepsWhatCame old new
    pub joins : unwritten new.outbox ≡ unwritten old.outbox ++ frame

  -- The frame of a text follows what waited, the stream took nothing, and the bytes that came are unchanged.
  abbrev pub Puts : List ℕ → Peer S → Peer S → Type 0
  Puts text old new = PutsFrame (text_frame text) old new

  -- The frame, or the bytes without one, follow what waited; the stream took some bytes off the front of all this, and the rest still waits.
  abbrev pub Sends : (S → Option (List ℕ)) → List ℕ → Peer S → Peer S → Type 0
  Sends contents frame old new = Writes contents (unwritten old.outbox ++ frame) (unwritten new.outbox) old.stream new.stream

  -- The frame of a text is sent.
  abbrev pub SendsText : (S → Option (List ℕ)) → List ℕ → Peer S → Peer S → Type 0
  SendsText contents text old new = Sends contents (text_frame text) old new

  -- The frame of a binary message is sent.
  abbrev pub SendsBytes : (S → Option (List ℕ)) → List ℕ → Peer S → Peer S → Type 0
  SendsBytes contents bytes old new = Sends contents (bytes_frame bytes) old new

  -- The close frame with a code and a reason is sent behind what waited, unless the stream fails.
  abbrev pub SendsClose : (S → Option (List ℕ)) → CloseCode → List ℕ → Peer S → Peer S → Type 0
  SendsClose contents code reason old new = HasFailed new.state ⊎ Sends contents (close_frame code reason) old new

  -- With a frame, the bytes that wait are within the bound and too few to be written now.
  abbrev pub IsLittle : List ℕ → Peer S → Type 0
  IsLittle frame old = (length (unwritten old.outbox) + length frame ≤ old.most_waiting) × (length (unwritten old.outbox) + length frame < write_from)

  -- The stream took what it could, and with the frame, or the bytes without one, the rest is past the bound: the connection closes, by a close frame behind the rest.
  pub record HasNoRoom (contents : S → Option (List ℕ)) (calls : S → Result ℕ ErrorKind → S → Type 0) (frame : List ℕ) (old new : Peer S) : Type 0 where
    pub closes : new.state ≡ Closing
    pub rest : List ℕ
    pub stream : S
    pub writes : Writes contents (unwritten old.outbox) rest old.stream stream
    pub tried : (rest ≡ []) ⊎ Blocked calls stream
    pub full : old.most_waiting < length rest + length frame
    pub close : Writes contents (rest ++ close_frame (code_of Slow) (reason_of Slow)) (unwritten new.outbox) stream new.stream
