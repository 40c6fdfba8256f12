use Rattle.std.proofs.Common.{◌≡◌, drop, arith}
use Rattle.bidi_cddl.specs.Steps.{tokens_of}
use Rattle.bidi_cddl.proofs.ReadLemmas.{holds, parentheses_say}
use Rattle.bidi_cddl.proofs.type_steps.is_in_parentheses.Goals as goal

pub returns : goal.returns
returns c =
    let ts = tokens_of c.args.tokens.now in
    let s = c.args.step.now in
    let p = c.in-Some.inner in
    let same : p.node ≡ s.node = omega arith in
    λ right nodes all. parentheses_say nodes p.node s.node (drop s.from ts) (drop p.from ts) (drop p.to ts) (drop s.to ts) same
    (c.passes_sign.ensures (holds c.passes_sign.result c.if-not-passes_sign.false)) (c.passes_sign-2.ensures right) (c.in-Some.ensures nodes ts all)
