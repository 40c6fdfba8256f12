use Rattle.bidi_lines.proofs.ResultLemmas.{no_truth}
use Rattle.bidi_play.proofs.WordLemmas.{has_space, known_word}
use Rattle.bidi_play.proofs.lines.read_step_text.Goals as goal

pub returns-in_default-clause-none : goal.returns-in_default-clause-none
returns-in_default-clause-none c = λ s sayable e. has_space c.args.line.now c.in_default.ensures.first s e

pub returns-else-is_same_text-9-clause-none : goal.returns-else-is_same_text-9-clause-none
returns-else-is_same_text-9-clause-none c = λ s sayable e.
    known_word c.args.line.now c.in-Some.word.now c.in-Some.rest.now c.in-Some.ensures.first
    (λ w. no_truth (c.if-is_same_text.ensures.1 w)) (λ w. no_truth (c.if-is_same_text-2.ensures.1 w)) (λ w. no_truth (c.if-is_same_text-3.ensures.1 w))
    (λ w. no_truth (c.if-is_same_text-4.ensures.1 w)) (λ w. no_truth (c.if-is_same_text-5.ensures.1 w))
    (λ w. no_truth (c.if-is_same_text-6.ensures.1 w)) (λ w. no_truth (c.if-is_same_text-7.ensures.1 w))
    (λ w. no_truth (c.if-is_same_text-8.ensures.1 w)) (λ w. no_truth (c.if-is_same_text-9.ensures.1 w)) s e
