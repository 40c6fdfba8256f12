-- Serving one connection over a WebSocket link: the inputs of the remote end, and the texts that are sent. Defined by this project.
use Rattle.std.specs.Prelude.{◌≡◌, ◌≤◌, ◌==◌, ℕ, suc, Bool, true, false, not, ◌&&◌, ◌||◌, if◌then◌else◌, List, [], ◌∷◌, length, Option, Result, Ok, Err, is_ok, ⊤}
use Rattle.bidi_sessions.specs.Step as step
use Rattle.bidi_remote.specs.Machine.History.{Input, Open, Drop, NotText, IsHeardAs}
use Rattle.bidi_remote.specs.Machine.Connections.{is_open}
use Rattle.bidi_remote.specs.Machine.Outcome.{deeds}
use Rattle.bidi_remote.specs.Machine.Sent.{Sent, Text, out, texts_on}
use Rattle.bidi_remote.specs.State.Stands.{StandsFor}
use Rattle.bidi_remote.specs.declared.remote_end.RemoteEnd.{RemoteEnd}
use Rattle.bidi_remote.specs.declared.remote_end.RemoteFault.{RemoteFault}
use Rattle.bidi_remote.specs.declared.remote_end.RemoteFault.TheVariants as remote
use Rattle.bidi_remote.specs.declared.remote_end.RemoteFault.TheVariants.{WornOut}
use Rattle.bidi_serve.specs.declared.listening.ServeFault.{ServeFault}
use Rattle.bidi_serve.specs.declared.listening.ServeFault.TheVariants as serve
use Rattle.bidi_socket.specs.declared.link.Link.{Link}
use Rattle.bidi_socket.specs.declared.link.LinkFault.{LinkFault}
use Rattle.bidi_socket.specs.SocketTaking as link
use Rattle.bidi_socket.specs.SocketTaking.{Taken, Control, Closed, IsTaken}
use Rattle.bidi_socket.specs.SocketSending.{QueuesText, SendsWaiting, SendsClose}
use Rattle.bidi_sessions.specs.Limits.{most_steps}

-- the connection is open after this history
abbrev pub is_served : List Input → ℕ → Bool
is_served h conn = is_open (deeds h) conn

-- opening makes no connection: its number was open before, or the remote end denies it
abbrev pub is_denied : List Input → ℕ → List ℕ → Bool
is_denied h conn resource = is_served h conn || not (is_served (Open conn resource ∷ h) conn)

-- the history after the connection is dropped, if it is still open
abbrev pub dropped : List Input → ℕ → List Input
dropped h conn = if is_served h conn then Drop conn ∷ h else h

-- this input gives the remote end this message: a text, or a message that is not one
abbrev pub IsHandedOn : ℕ → Taken → Input → Type 0
IsHandedOn conn (link.Text s) i = IsHeardAs (step.Text conn s) i
IsHandedOn conn link.NotText i = i ≡ NotText conn
IsHandedOn conn t i = ⊥

-- nothing more is taken: the peer has closed the link, or a call that takes has failed
abbrev pub IsEnd : Result Taken LinkFault → Type 0
IsEnd (Ok Closed) = ⊤
IsEnd (Ok t) = ⊥
IsEnd (Err fault) = ⊤

-- a step was refused after this history; if the end is worn out, the history has at least 1,000,000,000 inputs
abbrev pub IsRefused : RemoteEnd → RemoteFault → List Input → Type 0
IsRefused end fault h = StandsFor end h × (fault ≡ WornOut → most_steps ≤ length h)

-- the fault of serving for a fault of the remote end
abbrev pub serve_fault_of : RemoteFault → ServeFault
serve_fault_of remote.NoMemory = serve.NoMemory
serve_fault_of remote.WornOut = serve.WornOut

-- the thing that is sent is a text for this connection
abbrev pub is_text_on : ℕ → Sent → Bool
is_text_on conn (Text to s) = conn == to
is_text_on conn x = false

-- These texts were queued on a link one after another, up to the first that could not be. The last argument says whether all were.
pub data AreQueued {S K : Type 0} (contents : S → Option (List ℕ)) : Link S K → List (List ℕ) → Link S K → Bool → Type 0 where
  all : (l : Link S K) → AreQueued contents l [] l true
  next : (l m n : Link S K) (s : List ℕ) (ss : List (List ℕ)) (whole : Bool)
      → QueuesText contents s l m (Ok tt) → AreQueued contents m ss n whole → AreQueued contents l (s ∷ ss) n whole
  stop : (l m : Link S K) (s : List ℕ) (ss : List (List ℕ)) (fault : LinkFault) → QueuesText contents s l m (Err fault) → AreQueued contents l (s ∷ ss) m false

-- These texts were sent on a link at once: they were queued, up to the first that could not be, and then the queue was sent. If there are
-- no texts, nothing was done. The last argument says whether all were sent.
pub data AreSent {S K : Type 0} (contents : S → Option (List ℕ)) : Link S K → List (List ℕ) → Link S K → Bool → Type 0 where
  no_text : (l : Link S K) → AreSent contents l [] l true
  together : (l m n : Link S K) (s : List ℕ) (ss : List (List ℕ)) (queued : Bool) (r : Result (Unit {0}) LinkFault)
      → AreQueued contents l (s ∷ ss) m queued → SendsWaiting contents m n r → AreSent contents l (s ∷ ss) n (queued && is_ok r)

module _ {S K : Type 0} (remaining contents : S → Option (List ℕ)) (conn : ℕ) where
  -- One exchange, from a link and a history to those after it. The last argument says whether another may follow.
  pub data Exchange : Link S K → List Input → Link S K → List Input → Bool → Type 0 where
    -- a ping or a pong needs nothing from the remote end
    control : (l m : Link S K) (h : List Input) → IsTaken remaining contents l m (Ok Control) → Exchange l h m h true
    -- a message is given to the remote end, and the texts that it sends on the connection are sent in order
    message : (l m n : Link S K) (h : List Input) (t : Taken) (i : Input) (whole : Bool)
        → IsTaken remaining contents l m (Ok t) → IsHandedOn conn t i → AreSent contents m (texts_on conn (out h i)) n whole
        → Exchange l h n (i ∷ h) (whole && is_served (i ∷ h) conn)
    end : (l m : Link S K) (h : List Input) (r : Result Taken LinkFault) → IsTaken remaining contents l m r → IsEnd r → Exchange l h m h false

  -- at most so many exchanges one after another, up to one that none may follow
  pub data Exchanges : ℕ → Link S K → List Input → Link S K → List Input → Type 0 where
    used_up : (l : Link S K) (h : List Input) → Exchanges 0 l h l h
    more : (n : ℕ) (l m o : Link S K) (h k j : List Input) → Exchange l h m k true → Exchanges n m k o j → Exchanges (suc n) l h o j
    last : (n : ℕ) (l m : Link S K) (h k : List Input) → Exchange l h m k false → Exchanges (suc n) l h m k

  -- some messages were exchanged, at most so many
  abbrev pub ExchangedSome : ℕ → Link S K → List Input → List Input → Type 0
  ExchangedSome messages l h k = (n : ℕ) × (m : Link S K) × (n ≤ messages) × Exchanges n l h m k

  -- the inputs for a connection before a step was refused: none, or its opening and some messages
  pub data Began (resource : List ℕ) (messages : ℕ) (l : Link S K) (h : List Input) : List Input → Type 0 where
    nothing : Began resource messages l h h
    opened : (k : List Input) → ExchangedSome messages l (Open conn resource ∷ h) k → Began resource messages l h k

  -- the link is closed by a close frame with code 1000, if it is still open
  abbrev pub IsClosed : Link S K → Link S K → Type 0
  IsClosed l m = (r : Result (Unit {0}) LinkFault) × SendsClose contents l m r

  -- on an open connection, at most so many messages are exchanged, and then the link is closed
  pub record Exchanged (messages : ℕ) (l : Link S K) (h : List Input) (o : Link S K) (k : List Input) : Type 0 where
    pub link : Link S K
    pub exchanges : Exchanges messages l h link k
    pub closes : IsClosed link o

  -- One connection, from a link and a history to those after it. It is opened, at most so many messages are exchanged, it is dropped if it
  -- is still open, and the link is closed.
  pub data Served (resource : List ℕ) (messages : ℕ) : Link S K → List Input → Link S K → List Input → Type 0 where
    denied : (l m : Link S K) (h : List Input) → is_denied h conn resource ≡ true → IsClosed l m → Served resource messages l h m (Open conn resource ∷ h)
    served : (l o : Link S K) (h k : List Input) → is_denied h conn resource ≡ false
        → Exchanged messages l (Open conn resource ∷ h) o k → Served resource messages l h o (dropped k conn)
