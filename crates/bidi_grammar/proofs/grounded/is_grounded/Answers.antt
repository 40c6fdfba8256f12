use Rattle.std.proofs.Common.{◌≡◌, ◌∙◌, ◌<◌, ◌≤◌, length, true, false, true≢false, arith, refl, sym, subst, below_more}
use Rattle.std.proofs.lemmas.List.{length-map}
use Rattle.bidi_grammar.specs.Term.{term_at}
use Rattle.bidi_grammar.specs.View.{is_grounded, table, term_of}
use Rattle.bidi_grammar.proofs.TableLemmas.{term_here, grounded_here, few_terms}
use Rattle.bidi_grammar.proofs.grounded.is_grounded.Goals as goal

pub terms-preserved : goal.terms-preserved
terms-preserved c =
    let xs = c.args.terms.now in
    let n = c.terms.n in
    let x = c.index-terms-n.result in
    let few : n < length xs = omega (arith, c.terms-test.true, c.terms.auto.n-end) in
    let at : term_at (table xs) n ≡ term_of x = term_here xs n x few c.index-terms-n.is in
    let passes : is_grounded (length xs) n (term_of x) ≡ true = sym c.is_term_grounded.ensures ∙ c.if-not-is_term_grounded.false in
    below_more (λ k. is_grounded (length xs) k (term_at (table xs) k) ≡ true) n c.terms.invariant (subst (λ τ. is_grounded (length xs) n τ ≡ true) (sym at) passes)

pub returns-then-terms-gt-MAX_TERMS : goal.returns-then-terms-gt-MAX_TERMS
returns-then-terms-gt-MAX_TERMS c =
    (λ h. absurd (true≢false (sym h)), λ g. let few = few_terms c.args.terms.now g in absurd (omega (arith, few, c.if-terms-gt-MAX_TERMS.true)))

pub returns-then-not-is_term_grounded : goal.returns-then-not-is_term_grounded
returns-then-not-is_term_grounded c =
    let xs = c.args.terms.now in
    let n = c.terms.n in
    let x = c.index-terms-n.result in
    let few : n < length xs = omega (arith, c.terms-test.true, c.terms.auto.n-end) in
    let at : term_at (table xs) n ≡ term_of x = term_here xs n x few c.index-terms-n.is in
    let fails : is_grounded (length xs) n (term_of x) ≡ false = sym c.is_term_grounded.ensures ∙ c.if-not-is_term_grounded.true in
    (λ h. absurd (true≢false (sym h)), λ g. absurd (true≢false (sym (grounded_here xs n (term_of x) g few at) ∙ fails)))

pub returns : goal.returns
returns c =
    let xs = c.args.terms.now in
    let long : length (table xs) ≡ length xs = length-map xs term_of in
    let few : length xs ≤ 65536 = c.if-terms-gt-MAX_TERMS.false in
    let all : length xs ≤ c.terms.n = omega (arith, c.terms-test.false) in
    (λ _. (omega (arith, long, few), λ k h. subst (λ s. is_grounded s k (term_at (table xs) k) ≡ true) (sym long) (c.terms.invariant k (omega (arith, h, long, all)))), λ _. refl)
