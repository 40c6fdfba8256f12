use Rattle.std.proofs.Common.{map}
use Rattle.bidi_sessions.specs.View.{sent_of}
use Rattle.bidi_scripted.specs.View.{script_of}
use Rattle.bidi_script_lines.specs.Outcomes.{with_followers}
use Rattle.bidi_host_loop.specs.Deeds.{all_deeds_of}
use Rattle.bidi_host_loop.specs.Goes.{Does}
use Rattle.bidi_host_loop.proofs.hosting.Hosted.hand_on_with_followers.Given as goal

abbrev pub invariant-loop-one : goal.invariant-loop-one
invariant-loop-one g l =
    Does (all_deeds_of (with_followers (script_of l.initial.self.host.end.script).followers (map sent_of l.yielded))) l.initial.self l.self
