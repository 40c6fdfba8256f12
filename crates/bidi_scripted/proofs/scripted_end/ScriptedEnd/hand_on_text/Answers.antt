use Rattle.bidi_scripted.proofs.scripted_end.ScriptedEnd.hand_on_text.Goals as goal

pub returns-in-Ok-clause-handed_on : goal.returns-in-Ok-clause-handed_on
returns-in-Ok-clause-handed_on c = c.in-Ok.ensures.handed_on

pub returns-in-Err-clause-handed_on : goal.returns-in-Err-clause-handed_on
returns-in-Err-clause-handed_on c = c.in-Err.ensures.handed_on
