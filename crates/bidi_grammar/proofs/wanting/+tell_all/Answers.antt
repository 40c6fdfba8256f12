use Rattle.std.proofs.Common.{◌≡◌, ◌∙◌, ◌++◌, [], ◌∷◌, length, map, string_bytes, arith, refl, sym, ap, subst}
use Rattle.std.proofs.lemmas.Result.{on_ok_weaker}
use Rattle.bidi_grammar.specs.Words.{AllAlternatives, no_place, a_place, each_once}
use Rattle.bidi_grammar.specs.View.{table}
use Rattle.bidi_grammar.proofs.WordLemmas.{each_once-append, none_of}
use Rattle.bidi_grammar.proofs.wanting.+tell_all.Goals as goal

pub tell_all-requires : goal.tell_all-requires
tell_all-requires t c =
    let split : c.args.wants.now ≡ c.in-Some.want.now ∷ c.in-Some.more.now = c.in-Some.ensures.cases.0 in
    let long = ap length split in
    (omega (arith, long), c.requires)

pub returns-in-None : goal.returns-in-None
returns-in-None t c =
    let none : c.args.wants.now ≡ [] = none_of c.args.wants.now c.in-None.ensures.cases in
    ([], (subst (λ ns. AllAlternatives (table c.args.terms.now) ns []) (sym none) no_place, refl))

pub returns-in_ok-tell_term-in-Some : goal.returns-in_ok-tell_term-in-Some
returns-in_ok-tell_term-in-Some t c =
    let g = table c.args.terms.now in
    let split : c.args.wants.now ≡ c.in-Some.want.now ∷ c.in-Some.more.now = c.in-Some.ensures.cases.0 in
    let old = map string_bytes c.args.told.now.items in
    let one = c.in_ok-tell_term-in-Some.ensures in
    on_ok_weaker c.tell_all.result
    (λ two. (
      one.0 ++ two.0,
      (
        subst (λ ns. AllAlternatives g ns (one.0 ++ two.0)) (sym split) (a_place c.in-Some.want.now c.in-Some.more.now one.0 two.0 one.1.0 two.1.0),
        two.1.1 ∙ ap (λ told. each_once told two.0) one.1.1 ∙ sym (each_once-append old one.0 two.0),
      ),
    ))
    c.tell_all.ensures
