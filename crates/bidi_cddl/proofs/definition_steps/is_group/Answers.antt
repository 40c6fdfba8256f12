use Rattle.std.proofs.Common.{◌≡◌, drop, arith}
use Rattle.bidi_cddl.specs.Steps.{tokens_of}
use Rattle.bidi_cddl.proofs.ReadLemmas.{group_body, holds}
use Rattle.bidi_cddl.proofs.definition_steps.is_group.Goals as goal

pub returns : goal.returns
returns c =
    let ts = tokens_of c.args.tokens.now in
    let p = c.in-Some.found in
    let same : p.node ≡ c.args.node = omega arith in
    λ right nodes all. group_body nodes p.node c.args.node (drop c.args.from ts) (drop p.from ts) (drop p.to ts) (drop c.args.to ts) same
    (c.passes_sign.ensures (holds c.passes_sign.result c.if-not-passes_sign.false)) (c.passes_sign-2.ensures right) (c.in-Some.ensures nodes ts all)
