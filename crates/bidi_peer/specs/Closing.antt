-- By which code and reason a server closes a connection: RFC 6455, 7.4.1.
use Rattle.std.specs.Prelude.{ℕ, List, codes}
use Rattle.websocket.specs.declared.protocol.frame.coding.CloseCode.{CloseCode}
use Rattle.websocket.specs.declared.protocol.frame.coding.CloseCode.TheVariants as status
use Rattle.websocket.specs.CloseCode.{close_code_of}
use Rattle.bidi_peer.specs.declared.framing.Fault.{Fault}
use Rattle.bidi_peer.specs.declared.framing.Fault.TheVariants as fault
use Rattle.bidi_peer.specs.declared.peer.ClosingCause.{ClosingCause}
use Rattle.bidi_peer.specs.declared.peer.ClosingCause.TheVariants as cause

-- the code by which a fault closes a connection (RFC 6455, 7.4.1); Again is 1013, try again later
abbrev pub code_of : Fault → CloseCode
code_of fault.Protocol = status.Protocol
code_of fault.NotUtf8 = status.Invalid
code_of fault.TooLong = status.Size
code_of fault.Crowded = status.Size
code_of fault.Slow = status.Again

-- the reason in the close frame of a fault
abbrev pub reason_of : Fault → List ℕ
reason_of fault.Protocol = codes "a frame breaks the WebSocket protocol"
reason_of fault.NotUtf8 = codes "a text is not UTF-8"
reason_of fault.TooLong = codes "a message is too long"
reason_of fault.Slow = codes "too much waits to be read"
reason_of fault.Crowded = codes "too much is held in all"

-- the code by which a server closes a connection: 1000 if the connection is done, 1001 if the server stops, or the one that is asked for
abbrev pub closing_code : ClosingCause → CloseCode
closing_code cause.Done = status.Normal
closing_code cause.GoingAway = status.Away
closing_code (cause.Code n) = close_code_of n
