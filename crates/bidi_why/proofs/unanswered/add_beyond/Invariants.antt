use Rattle.std.proofs.Common.{◌≡◌, ◌++◌, map, drop, flat_map}
use Rattle.bidi_why.specs.Conversing.{command_of}
use Rattle.bidi_why.specs.Explainers.{kept_in, unanswered_in}
use Rattle.bidi_why.proofs.unanswered.add_beyond.Given as goal

abbrev pub invariant-loop-answer : goal.invariant-loop-answer
invariant-loop-answer l =
    map unanswered_in l.found.items ++ flat_map (λ k. command_of (kept_in k)) (drop l.answer-index l.answers)
    ≡ map unanswered_in l.initial.found.items ++ flat_map (λ k. command_of (kept_in k)) l.answers
