use Rattle.std.proofs.Common.{◌∙◌, ◌++◌, ap}
use Rattle.bidi_contexts.specs.Occurrences.{removal}
use Rattle.bidi_contexts.specs.View.{seen}
use Rattle.bidi_contexts.proofs.telling.removal.Goals as goal

pub returns-clause-told : goal.returns-clause-told
returns-clause-told c = λ past k stands is.
    c.in_ok-push_removal.ensures.told past k is (c.below.ensures past k stands is)
    ∙ ap (λ os. seen os ++ removal past k) c.new-events.ensures.items
