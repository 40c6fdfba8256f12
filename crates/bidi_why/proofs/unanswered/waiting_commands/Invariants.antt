use Rattle.std.proofs.Common.{◌≡◌, ◌++◌, map, drop}
use Rattle.bidi_why.specs.Conversing.{waiting_command}
use Rattle.bidi_why.specs.Explainers.{unanswered_in}
use Rattle.bidi_why.proofs.unanswered.waiting_commands.Given as goal

abbrev pub invariant-loop-id : goal.invariant-loop-id
invariant-loop-id l =
    map unanswered_in l.found.items ++ map (λ w. waiting_command l.lines (w.0.value, w.1)) (drop l.id-index l.waiting)
    ≡ map (λ w. waiting_command l.lines (w.0.value, w.1)) l.waiting
