use Rattle.std.proofs.Common.{ap, ◌∙◌, map}
use Rattle.bidi_contexts.specs.Contexts.{tops}
use Rattle.bidi_contexts.specs.ContextRows.{row_of}
use Rattle.bidi_contexts.proofs.InfoTextLemmas.{text-same}
use Rattle.bidi_contexts.proofs.SubtreeLemmas.{tops-subtrees}
use Rattle.bidi_contexts.proofs.contexts.Contexts.trees_text.Goals as goal

pub returns : goal.returns
returns c =
    text-same c.trees_text.result _ _ c.trees_text.ensures
    (λ infos told. λ past table.
    told past (tops past) (tops-subtrees past c.deref.result.now (ap (map row_of) c.deref.ensures.value ∙ table.rows) table.accepted))
