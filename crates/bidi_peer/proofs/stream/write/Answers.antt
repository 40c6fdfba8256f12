use Rattle.bidi_peer.specs.Streams.{none}
use Rattle.bidi_peer.proofs.StreamLemmas.{keeps_self}
use Rattle.bidi_peer.proofs.stream.write.Goals as goal

pub loop-init : goal.loop-init
loop-init g c = record { keeps = keeps_self _; interrupted = none }
