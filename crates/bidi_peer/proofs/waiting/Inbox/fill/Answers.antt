use Rattle.std.proofs.Common.{rules, ◌∙◌}
use Rattle.std.proofs.lemmas.List.{places}
use Rattle.bidi_peer.specs.Waiting.{untaken}
use Rattle.bidi_peer.proofs.StreamLemmas.{keeps_self}
use Rattle.bidi_peer.proofs.WaitingLemmas.{grows, reads_more}
use Rattle.bidi_peer.proofs.waiting.Inbox.fill.Goals as goal

pub returns-in-Ok-clause-reads : goal.returns-in-Ok-clause-reads
returns-in-Ok-clause-reads g c =
    let i = c.read_once.new.self in
    reads_more g.S.Read.remaining (untaken c.args.self.now) i.bytes.items i.start i.end c.in-Ok.count c.args.stream.now c.args.stream.now c.read_once.new.stream i.ordered
    (c.read_once.ensures.same ∙ c.make_room.ensures.same) (keeps_self (g.S.Read.remaining c.args.stream.now)) c.in-Ok.ensures.ok

pub returns-in-Ok-clause-filled : goal.returns-in-Ok-clause-filled
returns-in-Ok-clause-filled g c =
    let i = c.read_once.new.self in
    grows (untaken c.args.self.now) i.bytes.items i.start i.end c.in-Ok.count i.ordered (c.read_once.ensures.same ∙ c.make_room.ensures.same) (search (rules, places))
    (search rules)
