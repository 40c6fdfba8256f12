use Rattle.std.proofs.Common.{drop}
use Rattle.bidi_cddl.specs.Steps.{tokens_of}
use Rattle.bidi_cddl.specs.Definition as definition
use Rattle.bidi_cddl.proofs.ReadLemmas.{holds}
use Rattle.bidi_cddl.proofs.definition_steps.is_either.Goals as goal

pub returns : goal.returns
returns c =
    let ts = tokens_of c.args.tokens.now in
    λ right nodes all. definition.type_or_group c.args.first c.args.second (drop c.args.from ts) (drop c.args.to ts)
    (c.is_type.ensures (holds c.is_type.result c.if-not-is_type.false) ts nodes all) (c.is_group.ensures right nodes all)
