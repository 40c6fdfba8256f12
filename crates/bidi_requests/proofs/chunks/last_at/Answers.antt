use Rattle.std.proofs.Common.{rules}
use Rattle.bidi_requests.proofs.BodyLemmas.{end-part, end-refused}
use Rattle.bidi_requests.proofs.chunks.last_at.Goals as goal

pub returns-in-Ok-Partial : goal.returns-in-Ok-Partial
returns-in-Ok-Partial c = λ room. end-part c.args.bytes.now c.args.start c.requires.line.0 c.requires.line.1 (search rules)

pub returns-in-Err : goal.returns-in-Err
returns-in-Err c =
    λ room. end-refused c.args.bytes.now c.args.start c.requires.line.0 c.requires.line.1 c.requires.line.2 c.in-Err.field-0 (λ other. search rules) (λ same. search rules)
