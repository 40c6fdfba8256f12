use Rattle.std.proofs.Common.{◌<◌, map, length, arith, ap, ◌∙◌}
use Rattle.bidi_blame.specs.Said.{said_text}
use Rattle.std.proofs.lemmas.Result.{on_ok_weaker}
use Rattle.bidi_rules.specs.Grammar.{grammar}
use Rattle.bidi_blame.specs.Words.{alternatives, each_once}
use Rattle.bidi_rules.specs.declared.term.Term.{Term}
use Rattle.bidi_rules.proofs.GrammarLemmas.{grammar-Capped, grammar-OneOf, grammar-PairOf}
use Rattle.bidi_blame.proofs.WordLemmas.{choice_told, told_one_more, grammar-Bool, grammar-JsUint, grammar-JsInt, grammar-Any}
use Rattle.bidi_blame.proofs.wanting.+alternatives.Goals as goal

pub tell_term-returns-in-Bool : goal.tell_term-returns-in-Bool
tell_term-returns-in-Bool t c = rw (c.in-Bool.is, grammar-Bool) c.tell-in-Bool.ensures

pub tell_term-returns-in-JsUint : goal.tell_term-returns-in-JsUint
tell_term-returns-in-JsUint t c = rw (c.in-JsUint.is, grammar-JsUint) c.tell-in-JsUint.ensures

pub tell_term-returns-in-JsInt : goal.tell_term-returns-in-JsInt
tell_term-returns-in-JsInt t c = rw (c.in-JsInt.is, grammar-JsInt) c.tell-in-JsInt.ensures

pub tell_term-returns-in-Any : goal.tell_term-returns-in-Any
tell_term-returns-in-Any t c = rw (c.in-Any.is, grammar-Any) c.tell-in-Any.ensures

pub tell_term-returns-in-PairOf : goal.tell_term-returns-in-PairOf
tell_term-returns-in-PairOf t c = rw (c.in-PairOf.is, grammar-PairOf c.in-PairOf.field-0 c.in-PairOf.field-1) c.tell-in-PairOf.ensures

pub tell_term-returns-in-Capped : goal.tell_term-returns-in-Capped
tell_term-returns-in-Capped t c = rw (c.in-Capped.is, grammar-Capped c.in-Capped.field-0) c.tell-in-Capped.ensures

pub tell_term-returns-in_ok-tell_term-in-OneOf : goal.tell_term-returns-in_ok-tell_term-in-OneOf
tell_term-returns-in_ok-tell_term-in-OneOf t c =
    rw (c.in-OneOf.is, grammar-OneOf c.in-OneOf.first c.in-OneOf.rest)
    (on_ok_weaker c.tell_terms.result
    (choice_told (map said_text c.args.told.now.items) (map said_text c.tell_term.new.told.items) (map said_text c.tell_terms.new.told.items)
    (grammar c.in-OneOf.first.now) (map grammar c.in-OneOf.rest.now) c.in_ok-tell_term-in-OneOf.ensures)
    c.tell_terms.ensures)

pub tell_terms-loop-term-preserved : goal.tell_terms-loop-term-preserved
tell_terms-loop-term-preserved t c =
    let l = c.loop-term in
    let terms = c.args.terms.now in
    let few : l.term-index < length terms = omega (arith, c.loop-term-test.true, l.auto.term-index-end) in
    let one = c.in_ok-tell_term.ensures ∙ ap (λ (x : Term). each_once (map said_text l.told.items) (alternatives (grammar x))) c.term-item.is in
    told_one_more grammar (map said_text l.told.items) (map said_text c.tell_term.new.told.items) _ terms l.term-index c.term-item.result few l.invariant one
