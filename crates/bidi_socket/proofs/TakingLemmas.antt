-- Bad frames: the close frame that answers one, and the result of taking it.
use Rattle.std.proofs.Common.{◌≡◌, ◌∙◌, ℕ, List, Option, None, Some, Result, Err, inl, inr, refl, sym, ap, subst}
use Rattle.websocket.specs.declared.error.Error.{Error as FrameError}
use Rattle.websocket.specs.declared.protocol.state.WebSocketState.{WebSocketState}
use Rattle.websocket.specs.declared.protocol.state.WebSocketState.TheVariants.{Active, ClosedByUs, ClosedByPeer, CloseAcknowledged, Failed, Terminated}
use Rattle.websocket.specs.declared.protocol.frame.coding.CloseCode.{CloseCode}
use Rattle.tungstenite.specs.Connection.{Connection, read_step, end_error}
use Rattle.tungstenite.specs.Failure.{IsOutside, IsIo, ReadFails, of_frame}
use Rattle.tungstenite.specs.Socket.{Socket, Reads}
use Rattle.tungstenite.specs.declared.error.Error.{Error}
use Rattle.tungstenite.specs.declared.error.Error.TheVariants.{Io, Capacity, Protocol, Utf8, OutOfMemory, ConnectionClosed}
use Rattle.bidi_socket.specs.declared.link.LinkFault.{LinkFault}
use Rattle.bidi_socket.specs.declared.link.LinkFault.TheVariants as fault
use Rattle.bidi_socket.specs.SocketTaking.{BreaksOff, Settles, Taken, Takes, code_of, fault_of, told_fault}

none_some : {A : Type 0} {a : A} → None ≡ Some a → ⊥
none_some e = cc

-- the end of the stream has no code
code_of-end : (state : WebSocketState) → code_of (of_frame (end_error state)) ≡ None
code_of-end Active = refl
code_of-end ClosedByUs = refl
code_of-end ClosedByPeer = refl
code_of-end CloseAcknowledged = refl
code_of-end Failed = refl
code_of-end Terminated = refl

module _ (code : CloseCode) where
  -- an error with a code is no other
  is-none-other : (e other : Error) → code_of e ≡ Some code → code_of other ≡ None → e ≡ other → ⊥
  is-none-other e other is without at = none_some (sym without ∙ sym (ap code_of at) ∙ is)

  is-fault : (e : Error) → code_of e ≡ Some code → fault_of e ≡ fault.Protocol
  is-fault (Capacity cause) is = refl
  is-fault (Protocol cause) is = refl
  is-fault Utf8 is = refl
  is-fault e is = absurd (none_some is)

  is-inside : (e : Error) → code_of e ≡ Some code → IsOutside e → ⊥
  is-inside (Io cause) is outside = none_some is
  is-inside OutOfMemory is outside = none_some is
  is-inside e is outside = outside

  is-no-io : (e : Error) → code_of e ≡ Some code → IsIo e → ⊥
  is-no-io (Io cause) is io = none_some is
  is-no-io e is io = io

  -- it comes of a step of the protocol
  is-of-step : (c : Connection) (i : List ℕ) (e : Error) → code_of e ≡ Some code → ReadFails c i e
      → (x : FrameError) × (read_step c i ≡ Err x) × (e ≡ of_frame x)
  is-of-step c i e is (inl outside) = absurd (is-inside e is outside)
  is-of-step c i e is (inr (inl step)) = step
  is-of-step c i e is (inr (inr at)) = absurd (is-none-other e (of_frame (end_error c.state)) is (code_of-end c.state) at)

module _ {S : Type 0} (remaining contents : S → Option (List ℕ)) (old a b : Socket S) where
  -- after a bad frame, a read says nothing about the socket that it leaves
  reads-any : (e : Error) (code : CloseCode) → code_of e ≡ Some code → Reads remaining old a (Err e) → Reads remaining old b (Err e)
  reads-any e code is reads = (
    reads.0,
    reads.1,
    reads.2,
    reads.3,
    reads.4,
    reads.5,
    (
      reads.6.0,
      reads.6.1,
      λ io. absurd (is-no-io code e is io),
      λ at. absurd (is-none-other code e ConnectionClosed is refl at),
      λ io. absurd (is-no-io code e is io),
      λ at. absurd (is-none-other code e OutOfMemory is refl at),
      inr (inl (is-of-step code reads.2 reads.3 e is reads.6.1)),
    ),
  )

  -- if no frame is to blame, only the queue is sent
  pub fails-takes : (e : Error) (r : Result Taken LinkFault) → code_of e ≡ None → Reads remaining old a (Err e) → r ≡ told_fault (fault_of e)
      → Settles contents r None a b → Takes remaining contents old b r
  fails-takes e r without reads told settles = record {
    answer = Err e;
    read = a;
    reads = reads;
    told = inl told;
    settles = subst (λ k. Settles contents r k a b) (sym without) settles;
  }

  -- one that was answered, or could not be for want of memory, was taken as a take says
  pub breaks-off-takes : (e : Error) (code : CloseCode) (f : LinkFault) → code_of e ≡ Some code → Reads remaining old a (Err e) → BreaksOff contents code a b f
      → Takes remaining contents old b (Err f)
  breaks-off-takes e code fault.Protocol is reads off = record {
    answer = Err e;
    read = a;
    reads = reads;
    told = inl (sym (ap told_fault (is-fault code e is)));
    settles = subst (λ k. Settles contents (Err fault.Protocol) k a b) (sym is) off;
  }
  breaks-off-takes e code fault.NoMemory is reads off = record {
    answer = Err e;
    read = b;
    reads = reads-any e code is reads;
    told = inr refl;
    settles = refl;
  }
  breaks-off-takes e code fault.Stream is reads off = absurd off
  breaks-off-takes e code fault.Full is reads off = absurd off
  breaks-off-takes e code fault.Closed is reads off = absurd off
