use Rattle.std.proofs.Common.{◌≡◌, map}
use Rattle.bidi_sessions.proofs.BeginLemmas.{over}
use Rattle.bidi_scripted.specs.Script.{lost_on}
use Rattle.bidi_scripted.specs.View.{held_of}
use Rattle.bidi_scripted.proofs.script.lose.Given as goal

-- the commands that were looked at are lost
abbrev pub invariant-loop-command : goal.invariant-loop-command
invariant-loop-command l = map held_of l.held ≡ over (lost_on l.conn.value) l.command-index (map held_of l.initial.held)
