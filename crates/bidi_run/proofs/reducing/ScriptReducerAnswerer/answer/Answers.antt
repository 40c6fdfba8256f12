use Rattle.std.proofs.Common.{ap, Err}
use Rattle.bidi_run.proofs.reducing.ScriptReducerAnswerer.answer.Goals as goal

pub returns-in-Err-WornOut-clause-worn_out : goal.returns-in-Err-WornOut-clause-worn_out
returns-in-Err-WornOut-clause-worn_out c first lines text p worn = c.in-Err-WornOut.ensures.worn_out first lines text p (ap Err c.in-Err-WornOut.field-0-is)
