use Rattle.std.proofs.Common.{Bool, map}
use Rattle.bidi_remote.specs.Machine.Sent.{texts_on}
use Rattle.bidi_sessions.specs.View.{sent_of}
use Rattle.bidi_socket.specs.declared.link.Link.{Link}
use Rattle.bidi_serve.specs.Serving.{AreQueued}
use Rattle.bidi_serve.proofs.serving.queue_all.Given as goal

-- when the rest is sent, everything is
abbrev pub invariant-texts : goal.invariant-texts
invariant-texts g l =
    (n : Link g.row.S.Denot g.row.K.Denot) (w : Bool) → AreQueued g.S.Write.contents l.link (texts_on l.conn.value (map sent_of l.one-iterator.rest.items)) n w
    → AreQueued g.S.Write.contents l.fn.link (texts_on l.conn.value (map sent_of l.fn.sent.items)) n w
