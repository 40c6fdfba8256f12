use Rattle.std.proofs.Common.{rules}
use Rattle.bidi_lenient.specs.Eased.{params_refused}
use Rattle.bidi_lenient.proofs.unsubscribing.ease_unsubscribe.Goals as goal

pub returns : goal.returns
returns c = c.within.ensures params_refused (λ t r is. search rules)
