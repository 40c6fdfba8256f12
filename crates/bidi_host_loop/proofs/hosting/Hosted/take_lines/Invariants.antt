use Rattle.std.proofs.Common.{List}
use Rattle.bidi_scripted.specs.declared.scripted_end.ScriptedEnd.{ScriptedEnd}
use Rattle.bidi_host_loop.specs.Deeds.{Deed}
use Rattle.bidi_host_loop.specs.Goes.{HasRun}
use Rattle.bidi_host_loop.proofs.hosting.Hosted.take_lines.Given as goal

abbrev pub invariant-loop : goal.invariant-loop
invariant-loop g l = (first : ScriptedEnd) (before : List Deed) → HasRun first before l.initial.self → HasRun first before l.self
