use Rattle.std.proofs.Common.{◌∙◌, ap, map}
use Rattle.bidi_contexts.specs.ContextRows.{row_of}
use Rattle.bidi_contexts.proofs.RowLemmas.{any-stands}
use Rattle.bidi_contexts.proofs.contexts.Contexts.has.Goals as goal

pub returns : goal.returns
returns c = λ past table.
    c.has_number.ensures ∙ any-stands past c.deref.result.now c.args.number (ap (map row_of) c.deref.ensures.value ∙ table.rows) table.accepted
