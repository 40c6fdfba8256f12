use Rattle.std.proofs.Common.{ap, ◌∙◌}
use Rattle.bidi_loader.specs.Meaning.{further_group}
use Rattle.bidi_loader.proofs.NodeLemmas.{further_any}
use Rattle.bidi_loader.proofs.entry.is_any_number.Goals as goal

pub returns-in-AtLeast : goal.returns-in-AtLeast
returns-in-AtLeast c = λ h σ. ap (λ o. further_group o σ) c.in-AtLeast.is ∙ further_any c.in-AtLeast.least σ h
