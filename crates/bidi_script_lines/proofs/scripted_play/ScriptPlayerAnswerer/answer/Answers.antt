use Rattle.std.proofs.Common.{Err, ap}
use Rattle.bidi_lines.proofs.ResultLemmas.{match_some}
use Rattle.bidi_script_lines.proofs.PlainLemmas.{performed_more, spent}
use Rattle.bidi_script_lines.proofs.scripted_play.ScriptPlayerAnswerer.answer.Goals as goal

pub returns-in_ok-outcome_lines-in-Ok-Some-clause-ok : goal.returns-in_ok-outcome_lines-in-Ok-Some-clause-ok
returns-in_ok-outcome_lines-in-Ok-Some-clause-ok c first lines text p counted =
    let took = match_some c.in-Ok-Some.field-0 c.in-Ok-Some.outcome _ _ c.in-Ok-Some.ensures.ok c.in-Ok-Some.field-0-is in
    performed_more c.args.self.now.end c.take_line.new.end lines c.args.line.now text c.in_ok-outcome_lines-in-Ok-Some.field-0.items took.said c.in-Ok-Some.outcome p
    took.is took.brings took.takes c.in_ok-outcome_lines-in-Ok-Some.ensures

pub returns-in-Err-WornOut-clause-worn_out : goal.returns-in-Err-WornOut-clause-worn_out
returns-in-Err-WornOut-clause-worn_out c = λ first lines text p worn.
    let is = ap (λ e. Err e) c.in-Err-WornOut.field-0-is in
    (c.in-Err-WornOut.ensures.says is, spent c.args.self.now.end lines text p (λ h so. c.in-Err-WornOut.ensures.worn_out h so is))
