use Rattle.std.proofs.Common.{drop, ap}
use Rattle.bidi_cddl.specs.Node as node
use Rattle.bidi_cddl.specs.Node.{node_of}
use Rattle.bidi_cddl.specs.Steps.{nodes_of, tokens_of}
use Rattle.bidi_cddl.proofs.ReadLemmas.{name_says, node_there, number_says, text_says}
use Rattle.bidi_cddl.proofs.type_steps.is_leaf.Goals as goal

pub returns-in-Some-Text : goal.returns-in-Some-Text
returns-in-Some-Text c =
    let N = nodes_of c.args.nodes.now in
    let ts = tokens_of c.args.tokens.now in
    let s = c.args.step.now in
    let k = c.in-Some-Text.text.now in
    λ right. text_says N s.node k (drop s.from ts) (drop s.to ts) (node_there c.args.nodes.now s.node c.in-Some-Text.field-0 (node.a_text k) c.in-Some-Text.ensures (ap node_of c.in-Some-Text.field-0-is)) (c.passes.ensures right)

pub returns-in-Some-Number : goal.returns-in-Some-Number
returns-in-Some-Number c =
    let N = nodes_of c.args.nodes.now in
    let ts = tokens_of c.args.tokens.now in
    let s = c.args.step.now in
    let k = c.in-Some-Number.number.now in
    λ right. number_says N s.node k (drop s.from ts) (drop s.to ts) (node_there c.args.nodes.now s.node c.in-Some-Number.field-0 (node.a_number k) c.in-Some-Number.ensures (ap node_of c.in-Some-Number.field-0-is)) (c.passes-in-Some-Number.ensures right)

pub returns-in-Some-Name : goal.returns-in-Some-Name
returns-in-Some-Name c =
    let N = nodes_of c.args.nodes.now in
    let ts = tokens_of c.args.tokens.now in
    let s = c.args.step.now in
    let k = c.in-Some-Name.name.now in
    λ right. name_says N s.node k (drop s.from ts) (drop s.to ts) (node_there c.args.nodes.now s.node c.in-Some-Name.field-0 (node.a_name k) c.in-Some-Name.ensures (ap node_of c.in-Some-Name.field-0-is)) (c.passes-in-Some-Name.ensures right)
