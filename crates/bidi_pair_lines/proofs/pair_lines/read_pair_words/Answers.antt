use Rattle.std.proofs.Common.{refl}
use Rattle.bidi_lines.proofs.ResultLemmas.{if_none_at, no_truth}
use Rattle.bidi_pair_lines.proofs.WordLemmas.{has_space, if_none_in, play_alone, send_alone}
use Rattle.bidi_pair_lines.proofs.pair_lines.read_pair_words.Goals as goal

pub returns-in_default-clause-none : goal.returns-in_default-clause-none
returns-in_default-clause-none c x well says = has_space c.args.line.now c.in_default.ensures.first x says

pub returns-then-is_same_text-clause-none : goal.returns-then-is_same_text-clause-none
returns-then-is_same_text-clause-none c =
    if_none_in c.read_sending.result _ _
    (λ none x well says. send_alone c.args.line.now c.in-Some.word.now c.in-Some.rest.now c.in-Some.ensures.first (c.if-is_same_text.ensures.0 refl) none x well says)
    c.read_sending.ensures.none

pub returns-in-None-clause-none : goal.returns-in-None-clause-none
returns-in-None-clause-none c x well says =
    play_alone c.args.line.now c.in-Some.word.now c.in-Some.rest.now c.in-Some.ensures.first
    (λ w. no_truth (c.if-is_same_text.ensures.1 w)) (λ w. no_truth (c.if-is_same_text-2.ensures.1 w)) (λ w. no_truth (c.if-is_same_text-3.ensures.1 w))
    (λ w. no_truth (c.if-is_same_text-4.ensures.1 w))
    (λ t both sayable e. if_none_at c.in_ok-read_step_text.field-0 _ c.in_ok-read_step_text.ensures.none c.in-None.is t sayable e) x says
