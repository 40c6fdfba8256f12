use Rattle.std.proofs.Common.{◌≡◌, ◌∙◌, ◌<◌, ap, arith, inl, inr, length, map, sym}
use Rattle.std.specs.Prelude.{Some, slice_get}
use Rattle.std.proofs.lemmas.Bool.{cases_lt}
use Rattle.std.proofs.lemmas.List.{length-map}
use Rattle.std.proofs.lemmas.Option.{slice_get_within}
use Rattle.bidi_cddl.specs.Definition.{rule, rule_of}
use Rattle.bidi_cddl.proofs.RuleLemmas.{other_name, some_rule}
use Rattle.bidi_cddl.proofs.rules.rule_named.Goals as goal

pub returns-in_default : goal.returns-in_default
returns-in_default c = absurd (some_rule c.args.rules.now c.loop-place.place (omega arith) c.in_default.ensures)

pub loop-place-preserved : goal.loop-place-preserved
loop-place-preserved c = λ k lt b e.
    elim (cases_lt k c.loop-place.place) [
      | inl low ↦ c.loop-place.invariant k low b e
      | inr high ↦
          let at : k ≡ c.loop-place.place = omega arith in
          let here : slice_get (map rule_of c.args.rules.now) c.loop-place.place ≡ Some (rule c.args.name.now b) =
          ap (slice_get (map rule_of c.args.rules.now)) (sym at) ∙ e in
          other_name c.args.rules.now c.loop-place.place c.in-Some.rule c.args.name.now b (sym c.in-Some.ensures)
          (λ named. let wrong = sym c.if-is_named.false ∙ c.is_named.ensures.1 named in cc) here
    ]

pub returns-then-is_named : goal.returns-then-is_named
returns-then-is_named c = (sym c.in-Some.ensures, c.is_named.ensures.0 c.if-is_named.true)

pub returns : goal.returns
returns c = λ i b e.
    let within : i < length (map rule_of c.args.rules.now) = slice_get_within (map rule_of c.args.rules.now) i (rule c.args.name.now b) e in
    let low : i < c.loop-place.place = omega (arith, length-map c.args.rules.now rule_of) in
    c.loop-place.invariant i low b e
