use Rattle.std.proofs.Common.{◌≡◌, map, take}
use Rattle.bidi_active.specs.SessionView.{session_row_of}
use Rattle.bidi_remote.proofs.asking.numbers_of.Given as goal

abbrev pub invariant-loop-session : goal.invariant-loop-session
invariant-loop-session l = l.numbers.items ≡ map (λ r. r.number) (map session_row_of (take l.session-index l.sessions))
