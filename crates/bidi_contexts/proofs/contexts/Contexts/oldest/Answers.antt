use Rattle.std.proofs.Common.{◌∙◌, ap, map}
use Rattle.std.specs.Prelude.{option_map}
use Rattle.bidi_contexts.specs.ContextRows.{row_of}
use Rattle.bidi_contexts.proofs.RowLemmas.{oldest-stands}
use Rattle.bidi_contexts.proofs.TableLemmas.{row-now}
use Rattle.bidi_contexts.proofs.contexts.Contexts.oldest.Goals as goal

pub returns : goal.returns
returns c = λ past table.
    row-now c.oldest.result ∙ (ap (option_map row_of) c.oldest.ensures
    ∙ oldest-stands past c.deref.result.now (ap (map row_of) c.deref.ensures.value ∙ table.rows))
