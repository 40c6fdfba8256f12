use Rattle.std.proofs.Common.{take}
use Rattle.bidi_host_loop.specs.Goes.{By, lines_of}
use Rattle.bidi_host_loop.specs.Runs.{Plays}
use Rattle.bidi_host_loop.proofs.hosting.Hosted.play_page.Given as goal

abbrev pub invariant-loop-place : goal.invariant-loop-place
invariant-loop-place g l = By (Plays (take l.place (lines_of l.initial.self))) l.initial.self l.self
