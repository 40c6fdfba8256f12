use Rattle.std.proofs.Common.{rules, ap, inl, inr}
use Rattle.websocket.specs.Connection.{can_write}
use Rattle.bidi_peer.specs.Waiting.{untaken}
use Rattle.bidi_peer.proofs.TakingLemmas.{stays_active}
use Rattle.bidi_peer.proofs.standing.Peer.next_frame.Goals as goal
use Rattle.bidi_peer.proofs.standing.Peer.next_frame.Goals.{then-matches+then-not-can_write, else-matches}

pub returns-clause-stays : goal.returns-clause-stays
returns-clause-stays g c =
    λ was.
    let p = c.args.self.now in
    let read = c.read_frame in
    elim (stays_active p.context read.new.context (untaken p.inbox) (untaken read.new.inbox) p.outbox.second.items read.new.output.items c.in_ok-frame.frame
    c.in_ok-frame.ensures.shows (c.in_ok-frame.ensures.takes p.server) (p.active was)) [
      | inl last ↦ inl last
      | inr active ↦ inr (elim c.if-matches.branch [
        | then-matches+then-not-can_write w ↦ let writes = ap can_write active in search rules
        | else-matches w ↦ search rules
      ])
    ]
