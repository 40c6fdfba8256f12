use Rattle.bidi_host_loop.specs.Goes.{Rests}
use Rattle.bidi_host_loop.proofs.hosting.Hosted.eased_as.Given as goal

abbrev pub invariant-loop-report : goal.invariant-loop-report
invariant-loop-report g l = Rests l.initial.self l.self
