use Rattle.std.proofs.Common.{map}
use Rattle.bidi_sessions.specs.View.{sent_of}
use Rattle.bidi_host_loop.specs.Deeds.{all_deeds_of}
use Rattle.bidi_host_loop.specs.Goes.{Does}
use Rattle.bidi_host_loop.proofs.hosting.Hosted.hand_on_all.Given as goal

abbrev pub invariant-loop-one : goal.invariant-loop-one
invariant-loop-one g l = Does (all_deeds_of (map sent_of l.yielded)) l.initial.self l.self
