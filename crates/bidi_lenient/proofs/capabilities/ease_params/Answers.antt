use Rattle.std.proofs.Common.{rules}
use Rattle.bidi_lenient.specs.Eased.{capabilities_eased}
use Rattle.bidi_lenient.proofs.capabilities.ease_params.Goals as goal

pub returns : goal.returns
returns c = c.within.ensures capabilities_eased (λ t r is. search rules)
