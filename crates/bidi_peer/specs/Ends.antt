-- What a take reports of a connection that closes, that waits for an answer, or that has ended.
use Rattle.std.specs.Prelude.{◌≡◌, ◌≤◌, ◌+◌, ◌⊎◌, ℕ, List, [], Option, Result, true, false, ⊤, length}
use Rattle.std.specs.declared.io.ErrorKind.{ErrorKind}
use Rattle.std.specs.Io.KnownBytes.{IsAtEnd}
use Rattle.websocket.specs.Connection.{Connection, can_read}
use Rattle.bidi_peer.specs.Messages.{HasClose, HasFault, HasNoFrame, IsNoClose, Leads, Passed, Use, most_steps_of_take}
use Rattle.bidi_peer.specs.Streams.{Blocked}
use Rattle.bidi_peer.specs.Telling.{HasEnded, HasFailed}
use Rattle.bidi_peer.specs.Waiting.{untaken, unwritten}
use Rattle.bidi_peer.specs.declared.peer.Came.{Came}
use Rattle.bidi_peer.specs.declared.peer.Came.TheVariants as telling
use Rattle.bidi_peer.specs.declared.standing.End.TheVariants.{Known}
use Rattle.bidi_peer.specs.declared.standing.Peer.{Peer}
use Rattle.bidi_peer.specs.declared.standing.State.{State}
use Rattle.bidi_peer.specs.declared.standing.State.TheVariants.{Asked, Called}

-- A connection is not read: its request or its call waits for an answer, or nothing more is read.
abbrev pub IsUnread : State → Type 0
IsUnread (Asked key) = ⊤
IsUnread Called = ⊤
IsUnread s = HasEnded s

-- No request and no message is reported.
abbrev pub IsWordless : Came → Type 0
IsWordless telling.Nothing = ⊤
IsWordless telling.More = ⊤
IsWordless telling.Ended = ⊤
IsWordless c = ⊥

module _ {S : Type 0} where
  -- Nothing is reported only if the last call of the stream was a read that had nothing for now, or if the connection is not read.
  abbrev pub IsDry : (S → Result ℕ ErrorKind → S → Type 0) → Peer S → Came → Type 0
  IsDry reads new telling.Nothing = IsUnread new.state ⊎ Blocked reads new.stream
  IsDry reads new c = ⊤

  -- The caller now knows the end; nothing was read or written, and nothing else has changed.
  pub record LearnsEnd (old new : Peer S) : Type 0 where
    pub end : new.end ≡ Known
    pub state : new.state ≡ old.state
    pub stream : new.stream ≡ old.stream
    pub context : new.context ≡ old.context
    pub inbox : new.inbox ≡ old.inbox
    pub outbox : new.outbox ≡ old.outbox
    pub bound : new.most_waiting ≡ old.most_waiting

  -- Frames were taken, and none of them is a close frame; what messages they complete is not reported.
  abbrev pub PassesOver : (S → Option (List ℕ)) → (S → Option (List ℕ)) → Peer S → Peer S → Type 0
  PassesOver remaining contents old new = Passed IsNoClose remaining contents old new.context (untaken new.inbox) (unwritten new.outbox) new.stream

  -- After frames that are no close frame, the stream failed, or it ended with no whole frame left, or the next frame is a close frame or is refused.
  pub record Parts (remaining contents : S → Option (List ℕ)) (old new : Peer S) : Type 0 where
    pub before : Connection
    pub bytes : List ℕ
    pub waits : List ℕ
    pub stream : S
    pub passed : Passed IsNoClose remaining contents old before bytes waits stream
    pub why : HasFailed new.state ⊎ ((IsAtEnd (remaining stream) × HasNoFrame before bytes) ⊎ (HasClose before bytes ⊎ HasFault before bytes))

  -- What a take of a closing connection reports while its protocol reads: it passes over messages, and the end has its cause.
  abbrev pub IsPassedOver : (S → Option (List ℕ)) → (S → Option (List ℕ)) → Peer S → Peer S → Came → Type 0
  -- nothing: no whole frame is left
  IsPassedOver remaining contents old new telling.Nothing = PassesOver remaining contents old new × HasNoFrame new.context (untaken new.inbox)
  -- no end after as many frames, reads and writes as one take has steps: there may be more
  IsPassedOver remaining contents old new telling.More = (passed : PassesOver remaining contents old new) × (most_steps_of_take ≤ length passed.effects + length passed.uses)
  -- the end: the peer closed too, or the connection takes no more
  IsPassedOver remaining contents old new telling.Ended = Parts remaining contents old new
  IsPassedOver remaining contents old new c = ⊥

  -- The stream was used so often.
  pub record IsUsed (remaining contents : S → Option (List ℕ)) (k : ℕ) (old new : Peer S) : Type 0 where
    pub uses : List (Use S)
    pub leads : Leads remaining contents old.stream uses new.stream
    pub often : k ≤ length uses

  -- What a take of a closing connection reports once its protocol reads nothing more: what comes is thrown away, and the end is that of the stream.
  abbrev pub IsThrownAway : (S → Option (List ℕ)) → (S → Option (List ℕ)) → Peer S → Peer S → Came → Type 0
  -- nothing: all that came was thrown away
  IsThrownAway remaining contents old new telling.Nothing = untaken new.inbox ≡ []
  -- no end after as many reads as one take has steps: there may be more
  IsThrownAway remaining contents old new telling.More = IsUsed remaining contents most_steps_of_take old new
  -- the end: the stream failed or has ended
  IsThrownAway remaining contents old new telling.Ended = HasFailed new.state ⊎ IsAtEnd (remaining new.stream)
  IsThrownAway remaining contents old new c = ⊥

  -- What a take of a closing connection reports before the caller knows the end.
  pub record IsClosing (remaining contents : S → Option (List ℕ)) (old new : Peer S) (came : Came) : Type 0 where
    pub reads : can_read old.context.state ≡ true → IsPassedOver remaining contents old new came
    pub deaf : can_read old.context.state ≡ false → IsThrownAway remaining contents old new came
