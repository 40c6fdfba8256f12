use Rattle.std.proofs.Common.{◌≡◌}
use Rattle.bidi_peer.specs.Hearing.{Receives}
use Rattle.bidi_requests.specs.Requests.{IsUnfinished}
use Rattle.bidi_peer.specs.Waiting.{untaken}
use Rattle.bidi_peer.specs.Telling.{HasEnded, SameKnown}
use Rattle.bidi_peer.proofs.standing.Peer.read_request.Given as goal

-- the end is not told yet, there is more to read, what came waits, and no whole request came
abbrev pub invariant-loop : goal.invariant-loop
invariant-loop g l = record {
  known : SameKnown l.initial.self.end l.self.end;
  reads : HasEnded l.self.state → ⊥;
  bound : l.self.most_waiting ≡ l.initial.self.most_waiting;
  receives : Receives g.S.Read.remaining l.initial.self l.self;
  waits : IsUnfinished l.initial.self.least (untaken l.initial.self.inbox) → IsUnfinished l.self.least (untaken l.self.inbox);
}
