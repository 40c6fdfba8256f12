use Rattle.std.proofs.Common.{◌≡◌, ◌∙◌, drop, arith, ap, sym}
use Rattle.bidi_cddl.specs.Steps.{tokens_of}
use Rattle.bidi_cddl.specs.Token.{token_of}
use Rattle.bidi_cddl.proofs.ReadLemmas.{default_says}
use Rattle.bidi_cddl.proofs.type_steps.is_with_default.Goals as goal

pub returns : goal.returns
returns c =
    let ts = tokens_of c.args.tokens.now in
    let s = c.args.step.now in
    let p = c.in-Some.inner in
    let v = token_of c.in-Some-placed_at.value.token in
    let same : p.node ≡ s.node = omega arith in
    let front-at : p.from ≡ s.from = omega arith in
    let front : drop (p.from) ts ≡ drop (s.from) ts = ap (λ k. drop k ts) front-at in
    λ right nodes all. default_says nodes p.node s.node v (drop s.from ts) (drop p.from ts) (drop p.to ts) (drop c.in-Some-after.next ts) (drop s.to ts) same front
    (sym c.is_value.ensures ∙ c.if-not-is_value.false) c.in-Some-after.ensures (c.passes.ensures right) (c.in-Some.ensures nodes ts all)
