use Rattle.std.proofs.Common.{◌≡◌, arith}
use Rattle.bidi_peer.proofs.WaitingLemmas.{without-front}
use Rattle.bidi_peer.proofs.waiting.Inbox.take.Goals as goal

pub returns-else-self : goal.returns-else-self
returns-else-self c =
    let i = c.args.self.now in
    let all : c.min.result ≡ c.args.count = omega (arith, c.min.ensures, c.if-self.false) in
    without-front i.bytes.items i.start i.end c.args.count c.min.result all (omega (arith, c.min.ensures, c.if-self.false))
