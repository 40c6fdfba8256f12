-- Queueing a text and then flushing the queue is sending the text.
use Rattle.std.proofs.Common.{◌≡◌, ◌∙◌, ℕ, true≢false, false, List, Option, Result, Ok, Err, sym, subst}
use Rattle.std.specs.Prelude.{IsOk, OnOk}
use Rattle.websocket.specs.Connection.{Effect}
use Rattle.websocket.specs.declared.error.Error.{Error}
use Rattle.tungstenite.specs.declared.error.Error.{Error as SocketError}
use Rattle.tungstenite.specs.Socket.{Writes}
use Rattle.tungstenite.proofs.SocketLemmas.{writes-sent}
use Rattle.bidi_socket.specs.declared.link.Link.{Link}
use Rattle.bidi_socket.specs.declared.link.LinkFault.{LinkFault}
use Rattle.bidi_socket.specs.declared.link.LinkFault.TheVariants as fault
use Rattle.bidi_socket.specs.SocketSending.{QueuesText, SendsText, SendsWaiting}

module _ {S K : Type 0} (contents : S → Option (List ℕ)) (step : Result Effect Error) where
  -- the socket's answer is returned, and nothing else has changed
  pub joined : (l n m : Link S K) (answer : Result (Unit {0}) SocketError) (r : Result (Unit {0}) LinkFault)
      → l.is_closed ≡ false → m.is_closed ≡ l.is_closed → OnOk answer (Writes contents l.socket m.socket step) → OnOk r (IsOk answer × (n ≡ m))
      → OnOk r (Writes contents l.socket n.socket step × (l.is_closed ≡ false) × (n.is_closed ≡ false))
  joined l n m (Ok x) (Ok y) is_open same wrote told =
      subst (λ k. Writes contents l.socket k.socket step × (l.is_closed ≡ false) × (k.is_closed ≡ false)) (sym told.1) (wrote, is_open, same ∙ is_open)
  joined l n m (Err e) (Ok y) is_open same wrote told = absurd (true≢false (sym told.0))
  joined l n m answer (Err f) is_open same wrote told = tt

module _ {S K : Type 0} (contents : S → Option (List ℕ)) (s : List ℕ) where
  pub queued-sent : (l m n : Link S K) (r : Result (Unit {0}) LinkFault)
      → QueuesText contents s l m (Ok tt) → SendsWaiting contents m n r → SendsText contents s l n r
  queued-sent l m n (Ok x) joins sends = record {
    from_closed = λ is. absurd (true≢false (sym is ∙ joins.ok.1));
    ok = ((writes-sent contents l.socket m.socket n.socket _ joins.ok.0 sends.ok.0.0, sends.ok.0.1), joins.ok.1, sends.ok.2);
    err = λ is_open. tt;
  }
  queued-sent l m n (Err fault.Stream) joins sends = record {
    from_closed = λ is. absurd (true≢false (sym is ∙ joins.ok.1));
    ok = tt;
    err = λ is_open. (writes-sent contents l.socket m.socket n.socket _ joins.ok.0 (sends.err joins.ok.2).0, (sends.err joins.ok.2).1);
  }
  queued-sent l m n (Err fault.Protocol) joins sends = absurd (sends.err joins.ok.2).0
  queued-sent l m n (Err fault.Full) joins sends = absurd (sends.err joins.ok.2).0
  queued-sent l m n (Err fault.NoMemory) joins sends = absurd (sends.err joins.ok.2).0
  queued-sent l m n (Err fault.Closed) joins sends = absurd (sends.err joins.ok.2).0

  -- one that could not join is not sent
  pub queued-fails : (l m : Link S K) (f : LinkFault) → QueuesText contents s l m (Err f) → SendsText contents s l m (Err f)
  queued-fails l m f joins = record { from_closed = joins.from_closed; ok = tt; err = joins.err }
