use Rattle.std.proofs.Common.{codes, rules}
use Rattle.bidi_lenient.specs.Members.{within}
use Rattle.bidi_lenient.specs.Eased.{target_eased}
use Rattle.bidi_lenient.proofs.scripts.ease_disown.Goals as goal

pub returns : goal.returns
returns c = c.within.ensures (within (codes "target") target_eased) (λ t r is. search rules)
