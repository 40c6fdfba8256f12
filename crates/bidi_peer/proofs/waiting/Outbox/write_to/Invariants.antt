use Rattle.std.proofs.Common.{length}
use Rattle.bidi_peer.specs.Waiting.{Writes, unwritten}
use Rattle.bidi_peer.proofs.waiting.Outbox.write_to.Given as goal

-- what left since the beginning is in the stream
abbrev pub invariant-loop-stream : goal.invariant-loop-stream
invariant-loop-stream g l = Writes g.S.Write.contents (unwritten l.initial.self) (unwritten l.self) l.initial.stream l.stream

-- what waits
abbrev pub decreases-loop-stream : goal.decreases-loop-stream
decreases-loop-stream g l = length (unwritten l.self)
