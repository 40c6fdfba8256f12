use Rattle.std.specs.Io.KnownBytes.{Keeps}
use Rattle.bidi_peer.specs.Streams.{Interrupted}
use Rattle.bidi_peer.proofs.stream.write.Given as goal

-- all calls so far were interrupted
abbrev pub invariant-loop : goal.invariant-loop
invariant-loop g l = record {
  keeps : Keeps (g.S.Write.contents l.initial.stream) (g.S.Write.contents l.stream);
  interrupted : Interrupted g.S.Stream.writes l.initial.stream l.counter l.stream;
}
