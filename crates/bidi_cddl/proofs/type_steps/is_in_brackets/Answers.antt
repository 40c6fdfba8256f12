use Rattle.std.proofs.Common.{◌≡◌, drop, arith, ap}
use Rattle.bidi_cddl.specs.Node as node
use Rattle.bidi_cddl.specs.Node.{node_of}
use Rattle.bidi_cddl.specs.Steps.{nodes_of, tokens_of}
use Rattle.bidi_cddl.proofs.ReadLemmas.{brackets_say, holds, node_there}
use Rattle.bidi_cddl.proofs.type_steps.is_in_brackets.Goals as goal

pub returns : goal.returns
returns c =
    let N = nodes_of c.args.nodes.now in
    let ts = tokens_of c.args.tokens.now in
    let s = c.args.step.now in
    let p = c.in-Some.inner in
    let g = c.in-Some-Array.group in
    let same : p.node ≡ g = omega arith in
    λ right all. brackets_say N s.node p.node g (drop s.from ts) (drop p.from ts) (drop p.to ts) (drop s.to ts)
    (node_there c.args.nodes.now s.node c.in-Some-Array.field-0 (node.an_array g) c.in-Some-Array.ensures (ap node_of c.in-Some-Array.field-0-is)) same
    (c.passes_sign.ensures (holds c.passes_sign.result c.if-not-passes_sign.false)) (c.passes_sign-2.ensures right) (c.in-Some.ensures N ts all)
