use Rattle.std.proofs.Common.{◌∙◌, cond, ap}
use Rattle.bidi_scripted.specs.Script.{with_opening}
use Rattle.bidi_scripted.specs.View.{script_of}
use Rattle.bidi_scripted.proofs.scripted_end.ScriptedEnd.open.Goals as goal

pub returns-in-Ok-clause-handed_on : goal.returns-in-Ok-clause-handed_on
returns-in-Ok-clause-handed_on c =
    let on = c.in-Ok.ensures.handed_on in record { ok = on.ok; err = tt; worn_out = on.worn_out }

pub returns-in-Ok-clause-script : goal.returns-in-Ok-clause-script
returns-in-Ok-clause-script c = λ h s.
    c.reopen.ensures
    ∙ (λ i. cond (c.is_open-was_open.ensures h s i) (script_of (c.in-Ok.ensures.script i)) (with_opening c.args.conn.value (script_of (c.in-Ok.ensures.script i))))

pub returns-in-Err-clause-handed_on : goal.returns-in-Err-clause-handed_on
returns-in-Err-clause-handed_on c = c.in-Err.ensures.handed_on

pub returns-in-Err-clause-kept : goal.returns-in-Err-clause-kept
returns-in-Err-clause-kept c = ap script_of c.in-Err.ensures.script
