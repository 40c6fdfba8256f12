-- Which messages a take reports. RFC 6455, 5.4 to 5.6: a message may come in several frames, with control frames between them.
use Rattle.std.specs.Prelude.{false, ◌≡◌, ◌<◌, ◌≤◌, ◌+◌, ◌⊎◌, ℕ, List, [], ◌∷◌, ◌++◌, Option, None, Some, Ok, Err, ⊤, drop, length, string_bytes}
use Rattle.std.specs.Io.KnownBytes.{Appends, Consumes, IsAtEnd}
use Rattle.websocket.specs.Connection.{Connection, Effect, Outgoing, read_step, whole_header}
use Rattle.websocket.specs.Content.{Content, binary, close, ping, pong, text}
use Rattle.websocket.specs.Frame.{encode_frame}
use Rattle.websocket.specs.declared.error.Error.{Error}
use Rattle.websocket.specs.declared.protocol.config.Role.TheVariants.{Server}
use Rattle.websocket.specs.declared.protocol.frame.codec.FrameStatus.TheVariants.{Complete, Partial}
use Rattle.websocket.specs.declared.protocol.state.WebSocketState.TheVariants.{Active}
use Rattle.bidi_peer.specs.Telling.{HasFailed}
use Rattle.bidi_peer.specs.Waiting.{untaken, unwritten}
use Rattle.bidi_peer.specs.declared.peer.Came.{Came}
use Rattle.bidi_peer.specs.declared.peer.Came.TheVariants as telling
use Rattle.bidi_peer.specs.declared.standing.End.TheVariants.{Due}
use Rattle.bidi_peer.specs.declared.standing.Peer.{Peer}

-- how many steps one take has at most: each takes a frame or reads the stream
abbrev pub most_steps_of_take : ℕ
most_steps_of_take = 1024

-- the most bytes of a message
abbrev pub most_message_bytes : ℕ
most_message_bytes = 67108864

-- the most bytes of a frame
abbrev pub most_frame_bytes : ℕ
most_frame_bytes = 16777216

-- The protocol of a server has just begun: no frame was read or written, and the limits are those of the default.
pub record IsFresh (c : Connection) : Type 0 where
  pub role : c.role ≡ Server
  pub state : c.state ≡ Active
  pub fragments : c.fragments ≡ None
  pub longest_message : c.config.max_message_size ≡ Some most_message_bytes
  pub longest_frame : c.config.max_frame_size ≡ Some most_frame_bytes
  pub masked : c.config.accept_unmasked_frames ≡ false

-- A frame reports nothing to the caller: it is a ping, a pong, or a part of a message that goes on.
abbrev pub IsSilent : Option Content → Type 0
IsSilent None = ⊤
IsSilent (Some (text bytes)) = ⊥
IsSilent (Some (binary bytes)) = ⊥
IsSilent (Some (ping bytes)) = ⊤
IsSilent (Some (pong bytes)) = ⊤
IsSilent (Some (close reason)) = ⊥

-- A frame is no close frame.
abbrev pub IsNoClose : Option Content → Type 0
IsNoClose None = ⊤
IsNoClose (Some (text bytes)) = ⊤
IsNoClose (Some (binary bytes)) = ⊤
IsNoClose (Some (ping bytes)) = ⊤
IsNoClose (Some (pong bytes)) = ⊤
IsNoClose (Some (close reason)) = ⊥

-- The frames at the front of the bytes have these effects and are of this kind; after them, this is the state of the protocol and these bytes are left.
abbrev pub Passes : (Option Content → Type 0) → Connection → List ℕ → List Effect → Connection → List ℕ → Type 0
Passes kind c bytes [] d left = (d ≡ c) × (left ≡ bytes)
Passes kind c bytes (e ∷ effects) d left = (n : ℕ) × (read_step c bytes ≡ Ok (Complete (n, e))) × kind e.message × Passes kind e.next (drop n bytes) effects d left

-- The bytes begin with no whole frame.
abbrev pub HasNoFrame : Connection → List ℕ → Type 0
HasNoFrame c bytes = (n : ℕ) × (read_step c bytes ≡ Ok (Partial n))

-- The bytes begin with a close frame.
abbrev pub HasClose : Connection → List ℕ → Type 0
HasClose c bytes = (n : ℕ) × (e : Effect) × (read_step c bytes ≡ Ok (Complete (n, e))) × ((reason : _) × (e.message ≡ Some (close reason)))

-- The protocol refuses the frame at the front of the bytes.
abbrev pub HasFault : Connection → List ℕ → Type 0
HasFault c bytes = (e : Error) × (read_step c bytes ≡ Err e)

-- the frame of a reply of a server, which has no mask
abbrev pub reply_bytes : Option Outgoing → List ℕ
reply_bytes None = []
reply_bytes (Some reply) = encode_frame (whole_header reply.opcode None) reply.payload

-- the frames of the replies to some frames, in order
abbrev pub replies : List Effect → List ℕ
replies [] = []
replies (e ∷ effects) = reply_bytes e.reply ++ replies effects

-- One use of a stream, with the stream after it: a read gave these bytes, or a write took them.
pub data Use (S : Type 0) : Type 0 where
  gave : List ℕ → S → Use S
  took : List ℕ → S → Use S

module _ {S : Type 0} where
  -- the bytes that reads gave, in order
  abbrev pub given : List (Use S) → List ℕ
  given [] = []
  given ((gave bytes s) ∷ uses) = bytes ++ given uses
  given ((took bytes s) ∷ uses) = given uses

  -- the bytes that writes took, in order
  abbrev pub taken : List (Use S) → List ℕ
  taken [] = []
  taken ((gave bytes s) ∷ uses) = taken uses
  taken ((took bytes s) ∷ uses) = bytes ++ taken uses

  -- These uses lead from one state of a stream to another: each read gave the next bytes of the stream as it was, and each write added to what it holds.
  abbrev pub Leads : (S → Option (List ℕ)) → (S → Option (List ℕ)) → S → List (Use S) → S → Type 0
  Leads remaining contents s [] t = t ≡ s
  Leads remaining contents s ((gave bytes u) ∷ uses) t = Consumes (remaining s) (remaining u) bytes × Leads remaining contents u uses t
  Leads remaining contents s ((took bytes u) ∷ uses) t = Appends (contents s) (contents u) bytes × Leads remaining contents u uses t

  -- The bytes that waited, followed by those that reads gave, begin with frames of this kind, and only these frames were taken; their replies follow what waited to be written.
  -- It does not say that a write leaves the bytes of the stream that are still to be read as they were.
  pub record Passed (kind : Option Content → Type 0) (remaining contents : S → Option (List ℕ)) (old : Peer S) (c : Connection) (left waits : List ℕ) (stream : S) : Type 0 where
    pub uses : List (Use S)
    pub leads : Leads remaining contents old.stream uses stream
    pub effects : List Effect
    pub passes : Passes kind old.context (untaken old.inbox ++ given uses) effects c left
    pub sends : unwritten old.outbox ++ replies effects ≡ taken uses ++ waits

  -- Only frames that report nothing were taken.
  abbrev pub TellsNothing : (S → Option (List ℕ)) → (S → Option (List ℕ)) → Peer S → Peer S → Type 0
  TellsNothing remaining contents old new = Passed IsSilent remaining contents old new.context (untaken new.inbox) (unwritten new.outbox) new.stream

  -- After frames that report nothing, the next frame completes this message, and the bytes after it wait.
  pub record Tells (remaining contents : S → Option (List ℕ)) (content : Content) (old new : Peer S) : Type 0 where
    pub before : Connection
    pub bytes : List ℕ
    pub waits : List ℕ
    pub passed : Passed IsSilent remaining contents old before bytes waits new.stream
    pub size : ℕ
    pub effect : Effect
    pub reads : read_step before bytes ≡ Ok (Complete (size, effect))
    pub message : effect.message ≡ Some content
    pub context : new.context ≡ effect.next
    pub rest : untaken new.inbox ≡ drop size bytes
    pub sends : unwritten new.outbox ≡ waits ++ reply_bytes effect.reply

  -- After frames that report nothing, the stream failed, or it ended with no whole frame left, or the next frame is a close frame or is refused, or more waits to be written than may.
  -- It does not say how the stream failed.
  pub record Stops (remaining contents : S → Option (List ℕ)) (old new : Peer S) : Type 0 where
    pub before : Connection
    pub bytes : List ℕ
    pub waits : List ℕ
    pub stream : S
    pub passed : Passed IsSilent remaining contents old before bytes waits stream
    pub why : HasFailed new.state ⊎ ((IsAtEnd (remaining stream) × HasNoFrame before bytes) ⊎ (HasClose before bytes ⊎ (HasFault before bytes ⊎ (old.most_waiting < length waits))))

  -- What a take of an open connection reports: the next message, or why there is none.
  abbrev pub IsTold : (S → Option (List ℕ)) → (S → Option (List ℕ)) → Peer S → Peer S → Came → Type 0
  -- nothing: no whole frame is left
  IsTold remaining contents old new telling.Nothing = TellsNothing remaining contents old new × HasNoFrame new.context (untaken new.inbox)
  -- no message after as many frames, reads and writes as one take has steps: there may be more
  IsTold remaining contents old new telling.More = (passed : TellsNothing remaining contents old new) × (most_steps_of_take ≤ length passed.effects + length passed.uses)
  -- no request and no call: the handshake is done
  IsTold remaining contents old new (telling.Asks resource) = ⊥
  IsTold remaining contents old new (telling.Calls call) = ⊥
  -- a text, with its own bytes
  IsTold remaining contents old new (telling.Text t) = Tells remaining contents (text (string_bytes t)) old new
  -- a binary message
  IsTold remaining contents old new telling.NotText = (bytes : List ℕ) × Tells remaining contents (binary bytes) old new
  -- the end: it was owed, or the connection takes no more
  IsTold remaining contents old new telling.Ended = (old.end ≡ Due) ⊎ Stops remaining contents old new
