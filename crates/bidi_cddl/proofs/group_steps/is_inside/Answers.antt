use Rattle.std.proofs.Common.{◌≡◌, drop, arith, ap}
use Rattle.bidi_cddl.specs.Node as node
use Rattle.bidi_cddl.specs.Node.{node_of}
use Rattle.bidi_cddl.specs.Steps.{nodes_of, tokens_of}
use Rattle.bidi_cddl.proofs.ReadLemmas.{holds, inside_says, node_there}
use Rattle.bidi_cddl.proofs.group_steps.is_inside.Goals as goal

pub returns : goal.returns
returns c =
    let N = nodes_of c.args.nodes.now in
    let ts = tokens_of c.args.tokens.now in
    let s = c.args.step.now in
    let p = c.in-Some.inner in
    let r = c.in-Some-Inside in
    let same : p.node ≡ r.node = omega arith in
    λ right all. inside_says N s.node p.node r.node r.occurs (drop s.from ts) (drop c.in-Some-after_occurs.next ts) (drop p.from ts) (drop p.to ts) (drop s.to ts)
    (node_there c.args.nodes.now s.node c.in-Some-Inside.field-0 (node.inside r.occurs r.node) c.in-Some-Inside.ensures (ap node_of c.in-Some-Inside.field-0-is)) same
    (c.passes_sign.ensures (holds c.passes_sign.result c.if-not-passes_sign.false)) (c.passes_sign-2.ensures right) c.in-Some-after_occurs.ensures (c.in-Some.ensures N ts all)
