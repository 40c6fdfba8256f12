use Rattle.bidi_host_loop.specs.Goes.{Rests}
use Rattle.bidi_host_loop.proofs.hosting.Hosted.wait.Given as goal

abbrev pub invariant-loop-event : goal.invariant-loop-event
invariant-loop-event g l = Rests l.initial.self l.self
