use Rattle.std.proofs.Common.{◌≡◌, ◌≢◌}
use Rattle.bidi_peer.specs.Telling.{SameKnown}
use Rattle.bidi_peer.specs.declared.standing.End.TheVariants.{Known}
use Rattle.bidi_peer.specs.declared.standing.State.TheVariants.{Closing, Open}
use Rattle.bidi_peer.proofs.ClosingLemmas.{ClosesOn}
use Rattle.bidi_peer.proofs.MessageLemmas.{GoesOn}
use Rattle.bidi_peer.proofs.standing.Peer.read_messages.Given as goal

-- only frames that tell nothing were taken, or while it closes frames that are no close frame: one or a read at each step
abbrev pub invariant-loop : goal.invariant-loop
invariant-loop g l = record {
  known : SameKnown l.initial.self.end l.self.end;
  shut : l.initial.self.state ≢ Open → l.self.state ≢ Open;
  goes_on : l.initial.self.state ≡ Open → l.initial.self.end ≢ Known → GoesOn g.S.Read.remaining g.S.Write.contents l.initial.self l.counter l.self;
  bound : l.self.most_waiting ≡ l.initial.self.most_waiting;
  closes_on : l.initial.self.state ≡ Closing → l.initial.self.end ≢ Known → ClosesOn g.S.Read.remaining g.S.Write.contents l.initial.self l.counter l.self;
}
