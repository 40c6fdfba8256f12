use Rattle.std.proofs.Common.{drop, ap}
use Rattle.bidi_cddl.specs.Node as node
use Rattle.bidi_cddl.specs.Node.{node_of}
use Rattle.bidi_cddl.specs.Steps.{nodes_of, tokens_of}
use Rattle.bidi_cddl.proofs.ReadLemmas.{node_there, range_says}
use Rattle.bidi_cddl.proofs.type_steps.is_range.Goals as goal

pub returns : goal.returns
returns c =
    let N = nodes_of c.args.nodes.now in
    let ts = tokens_of c.args.tokens.now in
    let s = c.args.step.now in
    let r = c.in-Some-Range in
    λ right. range_says N s.node r.least.now r.most.now r.is_open c.dots.result (drop s.from ts) (drop c.in-Some.sign ts) (drop c.in-Some-after.last ts) (drop s.to ts)
    (node_there c.args.nodes.now s.node c.in-Some-Range.field-0 (node.range r.least.now r.most.now r.is_open) c.in-Some-Range.ensures (ap node_of c.in-Some-Range.field-0-is))
    c.dots.ensures c.in-Some.ensures c.in-Some-after.ensures (c.passes.ensures right)
