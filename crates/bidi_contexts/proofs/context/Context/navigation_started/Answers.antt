use Rattle.bidi_contexts.proofs.TellingLemmas.{told-of, well-of}
use Rattle.bidi_contexts.proofs.context.Context.navigation_started.Goals as goal

pub returns-clause-told : goal.returns-clause-told
returns-clause-told c = told-of c.occurrence.result _ _ _ c.occurrence.ensures.event c.occurrence.ensures.context c.occurrence.ensures.top

pub returns-clause-well : goal.returns-clause-well
returns-clause-well c = λ well. well-of c.occurrence.result _ c.occurrence.ensures.event well
