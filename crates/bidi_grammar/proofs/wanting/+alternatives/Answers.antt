use Rattle.std.proofs.Common.{◌≡◌, ◌≤◌, ◌<◌, ◌∙◌, ◌++◌, ℕ, List, [], ◌∷◌, Some, length, map, codes, string_bytes, arith, refl, sym, ap, subst, ltb-true}
use Rattle.std.proofs.lemmas.Bool.{and_parts}
use Rattle.std.proofs.lemmas.List.{length-map}
use Rattle.std.proofs.lemmas.Result.{on_ok_weaker}
use Rattle.std.specs.Prelude.{nat_lt}
use Rattle.bidi_grammar.specs.Term as cddl
use Rattle.bidi_grammar.specs.Term.{term_at}
use Rattle.bidi_grammar.specs.Words.{Alternatives, only, of_both, choice_in, each_once, term_words}
use Rattle.bidi_grammar.specs.View.{table, term_of}
use Rattle.bidi_grammar.proofs.TableLemmas.{term_here, term_past, grounded_here}
use Rattle.bidi_grammar.proofs.WordLemmas.{choice_of, each_once-append}
use Rattle.bidi_grammar.proofs.wanting.+alternatives.Goals as goal

pub tell_both-returns : goal.tell_both-returns
tell_both-returns t c =
    let m = c.args.first in
    let n = c.args.second in
    let old = map string_bytes c.args.told.now.items in
    let one = c.in_ok-tell_term.ensures in
    on_ok_weaker c.tell_term-2.result
    (λ two. (one.0 ++ two.0, (of_both m n one.0 two.0 one.1.0 two.1.0, two.1.1 ∙ ap (λ told. each_once told two.0) one.1.1 ∙ sym (each_once-append old one.0 two.0))))
    c.tell_term-2.ensures

pub tell_term-returns-then-n-terms : goal.tell_term-returns-then-n-terms
tell_term-returns-then-n-terms t c =
    let xs = c.args.terms.now in
    let g = table xs in
    let n = c.args.n in
    let long : length g ≤ n = omega (arith, length-map xs term_of, c.if-n-terms.true) in
    let past : term_at g n ≡ cddl.nothing = term_past g n long in
    let said : string_bytes c.in_ok-from_str.field-0 ≡ codes "nothing" = c.in_ok-from_str.ensures.ok in
    let old = map string_bytes c.args.told.now.items in
    on_ok_weaker c.tell.result
    (λ e. (codes "nothing" ∷ [], (subst (λ τ. Alternatives g τ (codes "nothing" ∷ [])) (sym past) (only cddl.nothing refl), e ∙ ap (λ (w : List ℕ). each_once old (w ∷ [])) said)))
    c.tell.ensures

pub tell_term-tell_both-requires : goal.tell_term-tell_both-requires
tell_term-tell_both-requires t c =
    let xs = c.args.terms.now in
    let n = c.args.n in
    let x = c.index-terms-n.result in
    let l = c.in-Some.first in
    let m = c.in-Some.second in
    let few : n < length xs = omega (arith, c.if-n-terms.false) in
    let is : Some (l, m) ≡ choice_in (term_of x) = c.in-Some.ensures in
    let at : term_at (table xs) n ≡ cddl.either l m = term_here xs n x few c.index-terms-n.is ∙ choice_of (term_of x) l m is in
    let low = and_parts (nat_lt l n) (nat_lt m n) (grounded_here xs n (cddl.either l m) c.requires few at) in
    let one : l < n = ltb-true l n low.0 in
    let two : m < n = ltb-true m n low.1 in
    (omega (arith, one, two), c.requires)

pub tell_term-returns-in-Some : goal.tell_term-returns-in-Some
tell_term-returns-in-Some t c =
    let xs = c.args.terms.now in
    let g = table xs in
    let n = c.args.n in
    let x = c.index-terms-n.result in
    let l = c.in-Some.first in
    let m = c.in-Some.second in
    let few : n < length xs = omega (arith, c.if-n-terms.false) in
    let is : Some (l, m) ≡ choice_in (term_of x) = c.in-Some.ensures in
    let at : term_at g n ≡ cddl.either l m = term_here xs n x few c.index-terms-n.is ∙ choice_of (term_of x) l m is in
    on_ok_weaker c.tell_both.result (λ h. (h.0, (subst (λ τ. Alternatives g τ h.0) (sym at) h.1.0, h.1.1))) c.tell_both.ensures

pub tell_term-returns-in_ok-term_words-in-None : goal.tell_term-returns-in_ok-term_words-in-None
tell_term-returns-in_ok-term_words-in-None t c =
    let xs = c.args.terms.now in
    let g = table xs in
    let n = c.args.n in
    let x = c.index-terms-n.result in
    let few : n < length xs = omega (arith, c.if-n-terms.false) in
    let at : term_at g n ≡ term_of x = term_here xs n x few c.index-terms-n.is in
    let ws = term_words g (term_of x) ∷ [] in
    let said : string_bytes c.in_ok-term_words-in-None.field-0 ≡ term_words g (term_of x) = c.in_ok-term_words-in-None.ensures in
    let old = map string_bytes c.args.told.now.items in
    on_ok_weaker c.tell-in-None.result
    (λ e. (ws, (subst (λ τ. Alternatives g τ ws) (sym at) (only (term_of x) (sym c.in-None.ensures)), e ∙ ap (λ (w : List ℕ). each_once old (w ∷ [])) said)))
    c.tell-in-None.ensures
