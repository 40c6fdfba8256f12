use Rattle.bidi_contexts.specs.Contexts.{children_of}
use Rattle.bidi_contexts.proofs.telling.push_removals_below.Goals as goal

pub returns-clause-told : goal.returns-clause-told
returns-clause-told c = λ past k stands is.
    c.push_removals.ensures.told past _ (children_of past k) (c.below.ensures past k stands is)
