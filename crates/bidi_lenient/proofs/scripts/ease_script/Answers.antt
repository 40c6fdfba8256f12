use Rattle.std.proofs.Common.{rules}
use Rattle.bidi_lenient.specs.Eased.{script_params_eased}
use Rattle.bidi_lenient.proofs.scripts.ease_script.Goals as goal

pub returns : goal.returns
returns c = c.within.ensures (script_params_eased c.args.name.now) (λ t r is. search rules)
