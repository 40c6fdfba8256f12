use Rattle.std.proofs.Common.{refl, subst, sym, true≢false}
use Rattle.json.specs.Value.{value_view}
use Rattle.bidi_grammar.specs.Term.{term_at}
use Rattle.bidi_grammar.specs.Judges.{Judges, yes_left, no_left, gave_up}
use Rattle.bidi_grammar.specs.View.{answer_of, draft_of, table}
use Rattle.bidi_grammar.proofs.ExactLemmas.{says}
use Rattle.bidi_grammar.proofs.judging.fits.Goals as goal

pub returns-in-Yes : goal.returns-in-Yes
returns-in-Yes c =
    let g = table c.args.terms.now in
    let u = value_view c.args.value.now in
    let n = c.args.n in
    let left = c.in-Yes.field-0 in
    let j : Judges g c.args.looks u n (term_at g n) (yes_left left) = subst (λ a. Judges g c.args.looks u n (term_at g n) (answer_of a c.judge_term.new.draft)) c.in-Yes.is c.in_ok-judge_term.ensures in
    record { answer = (yes_left left, (j, refl)); exact = (λ h. says j, λ f. refl) }

pub returns-in-No : goal.returns-in-No
returns-in-No c =
    let g = table c.args.terms.now in
    let u = value_view c.args.value.now in
    let n = c.args.n in
    let left = c.in-No.field-0 in
    let r = draft_of c.judge_term.new.draft in
    let j : Judges g c.args.looks u n (term_at g n) (no_left left r) = subst (λ a. Judges g c.args.looks u n (term_at g n) (answer_of a c.judge_term.new.draft)) c.in-No.is c.in_ok-judge_term.ensures in
    record { answer = (no_left left r, (j, refl)); exact = (λ h. absurd (true≢false (sym h)), λ f. absurd (says j f)) }

pub returns : goal.returns
returns c =
    let g = table c.args.terms.now in
    let u = value_view c.args.value.now in
    let n = c.args.n in
    let j : Judges g c.args.looks u n (term_at g n) gave_up = subst (λ a. Judges g c.args.looks u n (term_at g n) (answer_of a c.judge_term.new.draft)) c.in-Over.is c.in_ok-judge_term.ensures in
    record { answer = (gave_up, (j, refl)); exact = tt }
