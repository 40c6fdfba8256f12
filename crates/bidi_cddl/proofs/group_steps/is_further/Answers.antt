use Rattle.std.proofs.Common.{◌≡◌, drop, arith, ap}
use Rattle.bidi_cddl.specs.Node as node
use Rattle.bidi_cddl.specs.Node.{node_of}
use Rattle.bidi_cddl.specs.Steps.{nodes_of, tokens_of}
use Rattle.bidi_cddl.proofs.ReadLemmas.{further_says, node_there}
use Rattle.bidi_cddl.proofs.group_steps.is_further.Goals as goal

pub returns : goal.returns
returns c =
    let N = nodes_of c.args.nodes.now in
    let ts = tokens_of c.args.tokens.now in
    let s = c.args.step.now in
    let p = c.in-Some.value in
    let r = c.in-Some-Further in
    let same : p.node ≡ r.node = omega arith in
    let front-at : p.from ≡ c.in-Some-after_text.from = omega arith in
    let front : drop (p.from) ts ≡ drop (c.in-Some-after_text.from) ts = ap (λ k. drop k ts) front-at in
    let end-at : p.to ≡ s.to = omega arith in
    let end : drop (p.to) ts ≡ drop (s.to) ts = ap (λ k. drop k ts) end-at in
    λ right all. further_says N s.node p.node r.node r.occurs (drop s.from ts) (drop c.in-Some-after_occurs.next ts) (drop c.in-Some-after_text.from ts) (drop p.from ts) (drop p.to ts) (drop s.to ts)
    (node_there c.args.nodes.now s.node c.in-Some-Further.field-0 (node.further r.occurs r.node) c.in-Some-Further.ensures (ap node_of c.in-Some-Further.field-0-is)) same front end
    c.in-Some-after_occurs.ensures c.in-Some-after_text.ensures (c.in-Some.ensures N ts all)
