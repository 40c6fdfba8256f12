use Rattle.std.proofs.Common.{IfOk, sym, subst}
use Rattle.bidi_shape.specs.Fits.{Fits}
use Rattle.bidi_shape.specs.Term.{rule}
use Rattle.bidi_remarks.specs.Trouble.{HasMisfitOf, misfit_of, rule_of}
use Rattle.bidi_remarks.proofs.finding.misfit_in.Goals as goal

pub outline_misfit-requires : goal.outline_misfit-requires
outline_misfit-requires c = subst (λ t. Fits t (rule (rule_of c.args.side)) → ⊥) (sym c.in_ok-outline.ensures) c.requires

pub returns : goal.returns
returns c = subst (λ t. IfOk c.outline_misfit.result (λ m. HasMisfitOf c.args.side t (misfit_of m))) c.in_ok-outline.ensures c.outline_misfit.ensures
