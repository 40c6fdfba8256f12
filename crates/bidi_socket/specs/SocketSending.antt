-- The bytes that a link over a WebSocket sends in one call; a step writes a text frame or a close frame. After RFC 6455.
use Rattle.std.specs.Prelude.{◌≡◌, ℕ, Bool, true, false, List, [], Option, Some, Result, Err, OnOk, IfErr}
use Rattle.websocket.specs.declared.protocol.frame.coding.CloseCode.{CloseCode}
use Rattle.websocket.specs.declared.protocol.frame.coding.CloseCode.TheVariants.{Normal}
use Rattle.websocket.specs.declared.error.Error.{Error}
use Rattle.tungstenite.specs.declared.error.Error.{Error as SocketError}
use Rattle.tungstenite.specs.Connection.{Effect, write_step, can_write}
use Rattle.tungstenite.specs.Content.{text, close}
use Rattle.tungstenite.specs.Failure.{of_frame}
use Rattle.tungstenite.specs.Socket.{Socket, Writes, Flushed}
use Rattle.bidi_socket.specs.declared.link.Link.{Link}
use Rattle.bidi_socket.specs.declared.link.LinkFault.{LinkFault}
use Rattle.bidi_socket.specs.declared.link.LinkFault.TheVariants as fault
use Rattle.bidi_socket.specs.SocketTaking.{fault_of}

-- a close frame of code 1000, a normal closure, without a reason: RFC 6455, 7.4.1
-- example: a server's bytes are `88 02 03 e8`
abbrev pub normal_closure : Option (CloseCode × List ℕ)
normal_closure = Some (Normal, [])

-- this fault of a call that sends closes the link
abbrev pub closes : LinkFault → Bool
closes fault.Full = false
closes fault.NoMemory = false
closes f = true

-- the socket's answer is an error that becomes this fault
abbrev pub IsFaultOf : {A : Type 0} → Result A SocketError → LinkFault → Type 0
IsFaultOf answer f = (e : SocketError) × (answer ≡ Err e) × (fault_of e ≡ f)

-- the protocol does not allow the step, and its error becomes this fault
abbrev pub Refuses : Result Effect Error → LinkFault → Type 0
Refuses step f = (e : Error) × (step ≡ Err e) × (fault_of (of_frame e) ≡ f)

module _ {S : Type 0} where
  -- the step's frame was added to what the stream holds, and nothing is queued; a socket that can no longer send is unchanged
  abbrev pub IsSent : Bool → (S → Option (List ℕ)) → Result Effect Error → Socket S → Socket S → Type 0
  IsSent true contents step old new = Writes contents old new step × (new.output ≡ [])
  IsSent false contents step old new = new ≡ old

  -- the state of the socket after this fault of a call that sends
  abbrev pub SendFails : (S → Option (List ℕ)) → Result Effect Error → Socket S → Socket S → LinkFault → Type 0
  -- a part of the frame may have gone to the stream
  SendFails contents step old new fault.Stream = Writes contents old new step
  SendFails contents step old new fault.Full = new ≡ old
  SendFails contents step old new fault.NoMemory = new ≡ old
  SendFails contents step old new f = Refuses step f

  -- the step's frame was queued, and some of the queue may have gone to the stream
  abbrev pub IsQueued : (S → Option (List ℕ)) → Result Effect Error → Socket S → Socket S → Type 0
  IsQueued contents step old new = Writes contents old new step

  -- the whole queue went to the stream, and nothing is queued
  abbrev pub IsFlushed : (S → Option (List ℕ)) → Socket S → Socket S → Type 0
  IsFlushed contents old new = Flushed contents old new × (new.output ≡ [])

  -- a flush fails only if the stream fails, and some of the queue may have gone to it
  abbrev pub FlushFails : (S → Option (List ℕ)) → Socket S → Socket S → LinkFault → Type 0
  FlushFails contents old new fault.Stream = Flushed contents old new
  FlushFails contents old new f = ⊥

module _ {S K : Type 0} where
  -- One call that sends on a link: its effect on the socket, and the state after a fault. A closed link refuses it. A fault of the stream
  -- or of the protocol closes the link.
  pub record Steps (done : Socket S → Socket S → Type 0) (fails : Socket S → Socket S → LinkFault → Type 0) (old new : Link S K) (r : Result (Unit {0}) LinkFault) : Type
      0 where
    pub from_closed : old.is_closed ≡ true → (r ≡ Err fault.Closed) × (new ≡ old)
    pub ok : OnOk r (done old.socket new.socket × (old.is_closed ≡ false) × (new.is_closed ≡ false))
    pub err : old.is_closed ≡ false → IfErr r (λ f. fails old.socket new.socket f × (new.is_closed ≡ closes f))

  -- the step's frame is sent together with the queue, if the socket can still send
  abbrev pub SendsStep : (S → Option (List ℕ)) → Bool → Result Effect Error → Link S K → Link S K → Result (Unit {0}) LinkFault → Type 0
  SendsStep contents sends step old new r = Steps (IsSent sends contents step) (SendFails contents step) old new r

  -- a text is sent, in one frame
  abbrev pub SendsText : (S → Option (List ℕ)) → List ℕ → Link S K → Link S K → Result (Unit {0}) LinkFault → Type 0
  SendsText contents s old new r = SendsStep contents true (write_step old.socket.conn (text s)) old new r

  -- a close frame of a normal closure is sent, if the socket can still send
  abbrev pub SendsClose : (S → Option (List ℕ)) → Link S K → Link S K → Result (Unit {0}) LinkFault → Type 0
  SendsClose contents old new r = SendsStep contents (can_write old.socket.conn.state) (write_step old.socket.conn (close normal_closure)) old new r

  -- a text is queued, in one frame
  abbrev pub QueuesText : (S → Option (List ℕ)) → List ℕ → Link S K → Link S K → Result (Unit {0}) LinkFault → Type 0
  QueuesText contents s old new r =
      Steps (IsQueued contents (write_step old.socket.conn (text s))) (SendFails contents (write_step old.socket.conn (text s))) old new r

  -- the whole queue is sent
  abbrev pub SendsWaiting : (S → Option (List ℕ)) → Link S K → Link S K → Result (Unit {0}) LinkFault → Type 0
  SendsWaiting contents old new r = Steps (IsFlushed contents) (FlushFails contents) old new r
