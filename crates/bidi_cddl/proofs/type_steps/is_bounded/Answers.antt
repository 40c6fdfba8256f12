use Rattle.std.proofs.Common.{◌≡◌, ◌∙◌, drop, arith, ap, sym}
use Rattle.bidi_cddl.specs.Node as node
use Rattle.bidi_cddl.specs.Node.{node_of}
use Rattle.bidi_cddl.specs.Steps.{nodes_of, tokens_of}
use Rattle.bidi_cddl.proofs.ReadLemmas.{bound_says, node_there}
use Rattle.bidi_cddl.proofs.type_steps.is_bounded.Goals as goal

pub returns : goal.returns
returns c =
    let N = nodes_of c.args.nodes.now in
    let ts = tokens_of c.args.tokens.now in
    let s = c.args.step.now in
    let p = c.in-Some.inner in
    let r = c.in-Some-Bounded in
    let same : p.node ≡ r.node = omega arith in
    let front-at : p.from ≡ s.from = omega arith in
    let front : drop (p.from) ts ≡ drop (s.from) ts = ap (λ k. drop k ts) front-at in
    λ right all. bound_says N s.node p.node r.node r.control.now r.number.now (drop s.from ts) (drop p.from ts) (drop p.to ts) (drop c.in-Some-after.next ts) (drop s.to ts)
    (node_there c.args.nodes.now s.node c.in-Some-Bounded.field-0 (node.bounded r.node r.control.now r.number.now) c.in-Some-Bounded.ensures (ap node_of c.in-Some-Bounded.field-0-is)) same front
    (sym c.is_bound.ensures ∙ c.if-not-is_bound.false) c.in-Some-after.ensures (c.passes.ensures right) (c.in-Some.ensures N ts all)
