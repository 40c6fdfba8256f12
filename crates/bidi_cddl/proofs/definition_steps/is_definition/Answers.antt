use Rattle.std.proofs.Common.{drop}
use Rattle.bidi_cddl.specs.Steps.{tokens_of}
use Rattle.bidi_cddl.proofs.ReadLemmas.{definition_says}
use Rattle.bidi_cddl.proofs.definition_steps.is_definition.Goals as goal

pub returns : goal.returns
returns c =
    let ts = tokens_of c.args.tokens.now in
    let d = c.args.definition.now in
    λ right nodes all. definition_says nodes d.name.now d.adds d.body c.sign_of-sign.result (drop d.from ts) (drop c.in-Some.next ts) (drop c.in-Some-after.from ts) (drop c.args.to ts)
    c.sign_of-sign.ensures c.in-Some.ensures c.in-Some-after.ensures (c.is_added.ensures right nodes all)
