-- The messages that a link over a WebSocket takes, one in each call, as the socket states frames and messages. After RFC 6455.
use Rattle.std.specs.Prelude.{◌≡◌, ◌⊎◌, ℕ, Bool, true, false, List, [], Option, None, Some, Result, Ok, Err, string_bytes, ⊤}
use Rattle.websocket.specs.declared.error.ProtocolError.TheVariants.{ResetWithoutClosingHandshake}
use Rattle.websocket.specs.declared.protocol.frame.coding.CloseCode.{CloseCode}
use Rattle.websocket.specs.declared.protocol.frame.coding.CloseCode.TheVariants as status
use Rattle.tungstenite.specs.Connection.{close_step}
use Rattle.tungstenite.specs.Socket.{Socket, Reads, Writes, Flushed}
use Rattle.tungstenite.specs.declared.error.Error.{Error}
use Rattle.tungstenite.specs.declared.error.Error.TheVariants.{Io, Capacity, Protocol, Utf8, WriteBufferFull, OutOfMemory, ConnectionClosed, AlreadyClosed}
use Rattle.tungstenite.specs.declared.message.Message.{Message}
use Rattle.tungstenite.specs.declared.message.Message.TheVariants as message
use Rattle.bidi_socket.specs.declared.link.Incoming.{Incoming}
use Rattle.bidi_socket.specs.declared.link.Incoming.TheVariants as in_hand
use Rattle.bidi_socket.specs.declared.link.Link.{Link}
use Rattle.bidi_socket.specs.declared.link.LinkFault.{LinkFault}
use Rattle.bidi_socket.specs.declared.link.LinkFault.TheVariants as fault

-- what a call takes: a text, another message, a control frame, or the end of the connection
pub data Taken : Type 0 where
  Text : (text : List ℕ) → Taken
  NotText : Taken
  -- a ping or a pong
  Control : Taken
  Closed : Taken

-- the result of taking a message of the socket
abbrev pub told : Message → Taken
told (message.Text s) = Text s
told (message.Binary s) = NotText
told (message.Ping s) = Control
told (message.Pong s) = Control
told (message.Close frame) = Closed

-- the fault for an error of the socket
abbrev pub fault_of : Error → LinkFault
fault_of (Io cause) = fault.Stream
fault_of WriteBufferFull = fault.Full
fault_of OutOfMemory = fault.NoMemory
fault_of ConnectionClosed = fault.Closed
fault_of AlreadyClosed = fault.Closed
fault_of e = fault.Protocol

-- The code of the close frame that answers a bad frame: one past a limit, a text that is not UTF-8, or any other breach of the protocol.
-- The end of the stream is no frame and has no code. After RFC 6455, 7.4.1.
abbrev pub code_of : Error → Option CloseCode
code_of (Capacity cause) = Some status.Size
code_of Utf8 = Some status.Invalid
code_of (Protocol ResetWithoutClosingHandshake) = None
code_of (Protocol cause) = Some status.Protocol
code_of e = None

-- the code of the close frame that answers a read of the socket, or None if the read gave a message
abbrev pub code_behind : Result Message Error → Option CloseCode
code_behind (Ok m) = None
code_behind (Err e) = code_of e

-- the result for a fault: that the link is closed is no fault of taking, but the end
abbrev pub told_fault : LinkFault → Result Taken LinkFault
told_fault fault.Closed = Ok Closed
told_fault f = Err f

-- the result of taking what the socket answered
abbrev pub taken : Result Message Error → Result Taken LinkFault
taken (Ok m) = Ok (told m)
taken (Err e) = told_fault (fault_of e)

-- nothing more is taken after this result
abbrev pub is_last : Result Taken LinkFault → Bool
is_last (Ok Closed) = true
is_last (Ok t) = false
is_last (Err fault.Stream) = false
is_last (Err f) = true

-- the fault is one of taking: of the stream, of the protocol, or of memory
abbrev pub IsFaultOfTaking : LinkFault → Type 0
IsFaultOfTaking fault.Full = ⊥
IsFaultOfTaking fault.Closed = ⊥
IsFaultOfTaking f = ⊤

-- what was taken, as contracts see it
abbrev pub incoming_seen : Incoming → Taken
incoming_seen (in_hand.Text s) = Text (string_bytes s)
incoming_seen in_hand.NotText = NotText
incoming_seen in_hand.Control = Control
incoming_seen in_hand.Closed = Closed

-- the result of a call that takes, as contracts see it
abbrev pub seen : Result Incoming LinkFault → Result Taken LinkFault
seen (Ok i) = Ok (incoming_seen i)
seen (Err f) = Err f

module _ {S : Type 0} where
  -- unless one was sent before, a close frame with this code is queued, and the queue goes out as far as the stream accepts it
  -- example: a server's bytes for 1002 are `88 02 03 ea`
  abbrev pub ClosesBy : (S → Option (List ℕ)) → CloseCode → Socket S → Socket S → Type 0
  ClosesBy contents code read new = Writes contents read new (close_step read.conn (Some (code, [])))

  -- the answer to a bad frame: a close frame with this code and the fault `Protocol`, or `NoMemory`
  abbrev pub BreaksOff : (S → Option (List ℕ)) → CloseCode → Socket S → Socket S → LinkFault → Type 0
  BreaksOff contents code read new fault.Protocol = ClosesBy contents code read new
  BreaksOff contents code read new fault.NoMemory = ⊤
  BreaksOff contents code read new f = ⊥

  -- The state of the socket after taking. With a control message and with the last one, the queue goes out as far as the stream accepts it;
  -- it holds the answer to a ping or a close frame. With a bad frame that has a code, a close frame with that code goes out.
  abbrev pub Settles : (S → Option (List ℕ)) → Result Taken LinkFault → Option CloseCode → Socket S → Socket S → Type 0
  Settles contents (Ok Control) code read new = Flushed contents read new
  Settles contents (Ok Closed) code read new = Flushed contents read new
  Settles contents (Err fault.Protocol) (Some code) read new = ClosesBy contents code read new
  Settles contents r code read new = new ≡ read

  -- The socket has read its next message, which ends a run of frames in the bytes left over and those of the stream, or it has failed to.
  -- The result says so, unless it is `NoMemory`.
  pub record Takes (remaining contents : S → Option (List ℕ)) (old new : Socket S) (r : Result Taken LinkFault) : Type 0 where
    pub answer : Result Message Error
    pub read : Socket S
    pub reads : Reads remaining old read answer
    pub told : (r ≡ taken answer) ⊎ (r ≡ Err fault.NoMemory)
    pub settles : Settles contents r (code_behind answer) read new

module _ {S K : Type 0} where
  -- One call that takes. A closed link only says that it is closed. An open one takes what its socket reads, and is closed after the last message.
  pub record IsTaken (remaining contents : S → Option (List ℕ)) (old new : Link S K) (r : Result Taken LinkFault) : Type 0 where
    pub from_closed : old.is_closed ≡ true → (r ≡ Ok Closed) × (new ≡ old)
    pub from_open : old.is_closed ≡ false → Takes remaining contents old.socket new.socket r
    pub closes : old.is_closed ≡ false → new.is_closed ≡ is_last r
