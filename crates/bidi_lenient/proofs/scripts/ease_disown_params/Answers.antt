use Rattle.std.proofs.Common.{rules}
use Rattle.bidi_lenient.specs.Eased.{target_eased}
use Rattle.bidi_lenient.proofs.scripts.ease_disown_params.Goals as goal

pub returns : goal.returns
returns c = c.within.ensures target_eased (λ t r is. search rules)
