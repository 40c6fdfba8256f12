use Rattle.std.proofs.Common.{rules, ◌≡◌, ◌∙◌, false, inl, sym, true}
use Rattle.bidi_requests.proofs.BodyLemmas.{never-line, no-extensions, no-line}
use Rattle.bidi_requests.proofs.chunks.step_at.Goals as goal

pub returns-in-Ok-Partial : goal.returns-in-Ok-Partial
returns-in-Ok-Partial c = no-line c.args.bytes.now (search rules)

pub returns-in-Err : goal.returns-in-Err
returns-in-Err c = inl (never-line c.args.bytes.now c.in-Err.ensures.invalid)

pub returns-else-is_extended_at : goal.returns-else-is_extended_at
returns-else-is_extended_at c =
    let line = rw c.in-Ok-Complete.field-0-is at c.in-Ok-Complete.ensures.complete in
    inl (no-extensions c.args.bytes.now c.in-Ok-Complete.start c.in-Ok-Complete.size line.0 line.1 (λ ext. let no : false ≡ true = sym c.if-is_extended_at.false ∙ (c.is_extended_at.ensures c.in-Ok-Complete.size line.0 line.1).1 ext in cc))
