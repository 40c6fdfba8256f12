use Rattle.std.proofs.Common.{◌∙◌, ap, arith}
use Rattle.bidi_contexts.specs.ContextRows.{row_of, occurrence_in}
use Rattle.bidi_contexts.proofs.TellingLemmas.{told-of, well-of}
use Rattle.bidi_contexts.proofs.context.Context.created.Goals as goal

pub returns-clause-told : goal.returns-clause-told
returns-clause-told c =
    told-of c.occurrence.result _ _ _ c.occurrence.ensures.event c.occurrence.ensures.context c.occurrence.ensures.top
    ∙ ap (occurrence_in (row_of c.args.self.now) _) c.in_ok-info.ensures.tree

pub returns-clause-well : goal.returns-clause-well
returns-clause-well c = well-of c.occurrence.result _ c.occurrence.ensures.event (c.in_ok-info.ensures.well 0 tt (omega arith)).0
