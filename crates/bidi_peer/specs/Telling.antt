-- What a connection reports, and when.
use Rattle.std.specs.Prelude.{◌≡◌, ◌≢◌, ◌⊎◌, ℕ, List, [], Option, None, Some, ⊤}
use Rattle.bidi_peer.specs.declared.peer.Came.{Came}
use Rattle.bidi_peer.specs.declared.peer.Came.TheVariants as came
use Rattle.bidi_peer.specs.declared.standing.End.{End}
use Rattle.bidi_peer.specs.declared.standing.End.TheVariants.{Ahead, Due, Known}
use Rattle.bidi_peer.specs.declared.standing.State.{State}
use Rattle.bidi_peer.specs.declared.standing.State.TheVariants.{Asked, Called, Done, Failed, Head, Leaving, Open}

-- If the end was known before, it is known afterwards.
abbrev pub StaysKnown : End → End → Type 0
StaysKnown old new = old ≡ Known → new ≡ Known

-- The end is known afterwards exactly if it was known before.
abbrev pub SameKnown : End → End → Type 0
SameKnown old new = (old ≡ Known → new ≡ Known) × (new ≡ Known → old ≡ Known)

-- the state of the end once nothing more is read: the next take reports it, unless the caller knows it
abbrev pub owed : End → End
owed Ahead = Due
owed Due = Due
owed Known = Known

-- A take reports the end only if it was not known, and then it is known; anything else that it reports leaves that as it was.
abbrev pub TellsOnce : End → End → Came → Type 0
TellsOnce old new came.Ended = (old ≢ Known) × (new ≡ Known)
TellsOnce old new c = SameKnown old new

-- The same holds if something may have come; if nothing came, the end is not reported.
abbrev pub MayTell : End → End → Option Came → Type 0
MayTell old new None = SameKnown old new
MayTell old new (Some c) = TellsOnce old new c

-- A request waits for its answer.
abbrev pub IsAsked : State → Type 0
IsAsked (Asked key) = ⊤
IsAsked s = ⊥

-- A call waits for its reply.
abbrev pub IsCalled : State → Type 0
IsCalled Called = ⊤
IsCalled s = ⊥

-- No request is answered yet.
abbrev pub IsInHandshake : State → Type 0
IsInHandshake Head = ⊤
IsInHandshake (Asked key) = ⊤
IsInHandshake Called = ⊤
IsInHandshake s = ⊥

-- No close frame was sent or received.
abbrev pub IsUnclosed : State → Type 0
IsUnclosed Open = ⊤
IsUnclosed s = IsInHandshake s

-- Nothing more is read.
abbrev pub HasEnded : State → Type 0
HasEnded Leaving = ⊤
HasEnded Done = ⊤
HasEnded (Failed failure) = ⊤
HasEnded s = ⊥

-- A read or a write of the stream failed.
abbrev pub HasFailed : State → Type 0
HasFailed (Failed failure) = ⊤
HasFailed s = ⊥

-- Nothing more is read or written.
abbrev pub IsCut : State → Type 0
IsCut Done = ⊤
IsCut s = HasFailed s

-- A request and a call are reported only while they wait for their answer, and a message only while the connection is open.
abbrev pub IsTimely : State → Came → Type 0
IsTimely s (came.Asks resource) = IsAsked s
IsTimely s (came.Calls call) = IsCalled s
IsTimely s (came.Text text) = s ≡ Open
IsTimely s came.NotText = s ≡ Open
IsTimely s c = ⊤

-- Nothing is reported of the connection.
abbrev pub IsQuiet : Came → Type 0
IsQuiet came.Nothing = ⊤
IsQuiet came.More = ⊤
IsQuiet c = ⊥

-- No request and no end has been reported yet.
abbrev pub IsNew : State → End → Type 0
IsNew s e = (s ≡ Head) × (e ≡ Ahead)

-- The connection is in this state, unless its stream failed.
abbrev pub StaysUnlessFailed : State → State → Type 0
StaysUnlessFailed there new = (new ≡ there) ⊎ HasFailed new

-- The connection is over: nothing more is read or written, and the caller knows it.
abbrev pub IsOver : State → End → List ℕ → Type 0
IsOver Done end waits = end ≡ Known
IsOver (Failed failure) end waits = end ≡ Known
IsOver Leaving end waits = (waits ≡ []) × (end ≡ Known)
IsOver s end waits = ⊥
