use Rattle.std.proofs.Common.{◌≡◌, drop, arith, ap}
use Rattle.bidi_cddl.specs.Node as node
use Rattle.bidi_cddl.specs.Node.{node_of}
use Rattle.bidi_cddl.specs.Steps.{nodes_of}
use Rattle.bidi_cddl.proofs.ReadLemmas.{empty_says, node_there}
use Rattle.bidi_cddl.proofs.group_steps.is_empty.Goals as goal

pub returns : goal.returns
returns c =
    let N = nodes_of c.args.nodes.now in
    let s = c.args.step.now in
    let same : s.from ≡ s.to = omega arith in
    λ right ts. empty_says N s.node (drop s.from ts) (drop s.to ts) (node_there c.args.nodes.now s.node c.in-Some-Empty.field-0 (node.empty) c.in-Some-Empty.ensures (ap node_of c.in-Some-Empty.field-0-is)) (ap (λ k. drop k ts) same)
