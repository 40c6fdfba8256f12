use Rattle.std.proofs.Common.{rules}
use Rattle.bidi_peer.proofs.HearingLemmas.{after_flush}
use Rattle.bidi_peer.proofs.standing.Peer.leave_with.Goals as goal

pub returns-clause-writes : goal.returns-clause-writes
returns-clause-writes g c =
    after_flush g.S.Read.remaining g.S.Write.contents c.leave.new.self c.flush.new.self c.args.self.now.stream _ c.flush.ensures.flushes (search rules) c.leave.ensures.stream
