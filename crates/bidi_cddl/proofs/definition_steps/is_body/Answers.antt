use Rattle.std.proofs.Common.{drop, subst, sym}
use Rattle.bidi_cddl.specs.Steps.{tokens_of}
use Rattle.bidi_cddl.specs.Definition as definition
use Rattle.bidi_cddl.proofs.definition_steps.is_body.Goals as goal

pub returns-in-Type : goal.returns-in-Type
returns-in-Type c =
    let ts = tokens_of c.args.tokens.now in
    λ right nodes all. subst (λ b. definition.BodyReads nodes b (drop c.args.from ts) (drop c.args.to ts)) (sym c.in-Type.is)
    (definition.a_type c.in-Type.node (drop c.args.from ts) (drop c.args.to ts) (c.is_type.ensures right ts nodes all))

pub returns-in-Group : goal.returns-in-Group
returns-in-Group c =
    let ts = tokens_of c.args.tokens.now in
    λ right nodes all. subst (λ b. definition.BodyReads nodes b (drop c.args.from ts) (drop c.args.to ts)) (sym c.in-Group.is)
    (definition.a_group c.in-Group.node (drop c.args.from ts) (drop c.args.to ts) (c.is_group.ensures right nodes all))
