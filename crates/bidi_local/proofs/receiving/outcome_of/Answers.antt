use Rattle.std.proofs.Common.{ap₂, sym, subst}
use Rattle.bidi_shape.specs.Term.{rule}
use Rattle.bidi_shape.specs.Fits.{Fits}
use Rattle.bidi_shape.specs.Outcome.{known_misfit}
use Rattle.bidi_shape.specs.ValueLaws.{others_of}
use Rattle.bidi_tree.specs.Node.{map}
use Rattle.bidi_methods.specs.Method.{result_of}
use Rattle.bidi_methods.specs.contracts.result_data.ResultDataPayloadMethod.TheImpl.{ghosts}
use Rattle.bidi_local.specs.Received.{Answer}
use Rattle.bidi_local.specs.Receiving.{IsOutcome, is_good, is_bad}
use Rattle.bidi_local.proofs.receiving.outcome_of.Goals as goal

pub returns-in-Ok-clause-outcome : goal.returns-in-Ok-clause-outcome
returns-in-Ok-clause-outcome c =
    let d = c.in-Ok.result_data in
    let read = c.in-Ok.ensures.ok in
    let id = c.args.id.value in
    subst (λ m. IsOutcome id c.args.method (map (others_of c.args.contents)) m) (ap₂ (λ k t. Answer id k t) (sym read.0) (sym read.1))
    (is_good (subst (λ t. Fits t (rule (result_of c.args.method))) read.1
    (subst (λ k. Fits (ghosts.payload.tree_of d) (rule (result_of k))) read.0 (ghosts.payload.fits d read.2))))

pub returns-in-Err-NoFit-clause-outcome : goal.returns-in-Err-NoFit-clause-outcome
returns-in-Err-NoFit-clause-outcome c = is_bad (known_misfit c.in-Err-NoFit.field-0 c.in-Err-NoFit.field-0-is c.in-Err-NoFit.ensures.no_fit)
