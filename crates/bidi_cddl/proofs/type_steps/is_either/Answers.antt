use Rattle.std.proofs.Common.{◌≡◌, drop, arith, ap}
use Rattle.bidi_cddl.specs.Node as node
use Rattle.bidi_cddl.specs.Node.{node_of}
use Rattle.bidi_cddl.specs.Steps.{nodes_of, tokens_of}
use Rattle.bidi_cddl.proofs.ReadLemmas.{either_says, node_there}
use Rattle.bidi_cddl.proofs.type_steps.is_either.Goals as goal

pub returns : goal.returns
returns c =
    let N = nodes_of c.args.nodes.now in
    let ts = tokens_of c.args.tokens.now in
    let s = c.args.step.now in
    let p = c.in-Some.one in
    let q = c.in-Some-part.other in
    let r = c.in-Some-Either in
    let same-first : p.node ≡ r.a = omega arith in
    let same-second : q.node ≡ r.b = omega arith in
    let front-at : p.from ≡ s.from = omega arith in
    let front : drop (p.from) ts ≡ drop (s.from) ts = ap (λ k. drop k ts) front-at in
    let end-at : q.to ≡ s.to = omega arith in
    let end : drop (q.to) ts ≡ drop (s.to) ts = ap (λ k. drop k ts) end-at in
    λ right all. either_says N s.node p.node q.node r.a r.b (drop s.from ts) (drop p.from ts) (drop p.to ts) (drop q.from ts) (drop q.to ts) (drop s.to ts)
    (node_there c.args.nodes.now s.node c.in-Some-Either.field-0 (node.either r.a r.b) c.in-Some-Either.ensures (ap node_of c.in-Some-Either.field-0-is)) same-first same-second front end
    (c.passes_sign.ensures right) (c.in-Some.ensures N ts all) (c.in-Some-part.ensures N ts all)
