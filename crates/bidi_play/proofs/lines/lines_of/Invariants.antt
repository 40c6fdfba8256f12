use Rattle.std.proofs.Common.{◌≡◌, map}
use Rattle.std.specs.Prelude.{string_bytes}
use Rattle.bidi_sessions.specs.View.{sent_of}
use Rattle.bidi_play.specs.Lines.{written}
use Rattle.bidi_play.proofs.lines.lines_of.Given as goal

abbrev pub invariant-loop-sent : goal.invariant-loop-sent
invariant-loop-sent l = string_bytes l.lines ≡ written (map sent_of l.yielded)
