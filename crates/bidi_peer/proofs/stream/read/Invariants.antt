use Rattle.std.specs.Io.KnownBytes.{Keeps}
use Rattle.bidi_peer.specs.Streams.{Interrupted}
use Rattle.bidi_peer.proofs.stream.read.Given as goal

-- all calls so far were interrupted
abbrev pub invariant-loop : goal.invariant-loop
invariant-loop g l = record {
  keeps : Keeps (g.S.Read.remaining l.initial.stream) (g.S.Read.remaining l.stream);
  interrupted : Interrupted g.S.Stream.reads l.initial.stream l.counter l.stream;
}
