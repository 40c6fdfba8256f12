use Rattle.bidi_host_loop.specs.Goes.{Rests}
use Rattle.bidi_host_loop.proofs.hosting.Hosted.accept_all.Given as goal

abbrev pub invariant-loop : goal.invariant-loop
invariant-loop g l = Rests l.initial.self l.self
