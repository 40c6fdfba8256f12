use Rattle.std.proofs.Common.{◌≡◌, map}
use Rattle.bidi_sessions.specs.View.{sent_of}
use Rattle.bidi_scripted.specs.View.{script_of}
use Rattle.bidi_script_lines.specs.Outcomes.{with_followers}
use Rattle.bidi_script_lines.proofs.outcome.with_followers.Given as goal

abbrev pub invariant-loop-one : goal.invariant-loop-one
invariant-loop-one l = map sent_of l.all.items ≡ with_followers (script_of l.end.script).followers (map sent_of l.yielded)
