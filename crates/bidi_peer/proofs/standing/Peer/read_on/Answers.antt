use Rattle.std.proofs.Common.{rules, refl}
use Rattle.bidi_peer.proofs.HearingLemmas.{nothing_heard}
use Rattle.bidi_peer.proofs.standing.Peer.read_on.Goals as goal

pub returns-in-Nothing-clause-heard : goal.returns-in-Nothing-clause-heard
returns-in-Nothing-clause-heard g c =
    λ ahead.
    nothing_heard g.S.Read.remaining g.S.Write.contents c.args.self.now _
    (record { state = refl; end = refl; context = refl; bound = refl; outbox = refl; reads = c.fill.ensures.reads }) refl (search rules)
