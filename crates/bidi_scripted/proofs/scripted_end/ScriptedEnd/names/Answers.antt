use Rattle.bidi_scripted.specs.declared.fault.ScriptFault.TheVariants.{WornOut}
use Rattle.bidi_scripted.specs.Faults.{RefusesNames}
use Rattle.bidi_scripted.specs.View.{script_of}
use Rattle.bidi_scripted.proofs.FaultLemmas.{as-it-was, err-is}
use Rattle.bidi_scripted.proofs.scripted_end.ScriptedEnd.names.Goals as goal

pub returns-in_err-words-clause-why : goal.returns-in_err-words-clause-why
returns-in_err-words-clause-why c =
    as-it-was _ _ c.from_residual.result c.from_residual.ensures.1 (c.in_err-words.ensures.why (script_of c.args.self.now.script))

pub returns-in_err-words-clause-worn_out : goal.returns-in_err-words-clause-worn_out
returns-in_err-words-clause-worn_out c = λ is.
    let W = RefusesNames c.args.names.now (script_of c.args.self.now.script) in
    err-is W c.from_residual.result WornOut
    (as-it-was W _ c.from_residual.result c.from_residual.ensures.1 (c.in_err-words.ensures.why (script_of c.args.self.now.script))) is
