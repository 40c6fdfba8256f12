use Rattle.std.proofs.Common.{subst, sym}
use Rattle.bidi_peer.specs.Waiting.{Writes, unwritten}
use Rattle.bidi_peer.proofs.WaitingLemmas.{writes_more}
use Rattle.bidi_peer.proofs.waiting.Outbox.write_to.Goals as goal

pub loop-stream-preserved : goal.loop-stream-preserved
loop-stream-preserved g c =
    let contents = g.S.Write.contents in
    let waited = unwritten c.args.self.now in
    let o = c.has_first.new.self in
    let so_far : Writes contents waited (unwritten o) c.args.stream.now c.loop-stream.stream =
    subst (λ m. Writes contents waited m c.args.stream.now c.loop-stream.stream) (sym c.has_first.ensures.same) c.loop-stream.invariant in
    writes_more contents waited o.first.items o.second.items o.sent c.in-Ok.count c.args.stream.now c.loop-stream.stream c.write.new.stream so_far
    (rw c.rest.ensures at c.in-Ok.ensures.bytes)
