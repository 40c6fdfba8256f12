use Rattle.std.proofs.Common.{Ok, Err}
use Rattle.bidi_scripted.proofs.FateLemmas.{as-handed}
use Rattle.bidi_scripted.proofs.scripted_end.ScriptedEnd.hand_on.Goals as goal

pub returns-in-Ok-clause-handed_on : goal.returns-in-Ok-clause-handed_on
returns-in-Ok-clause-handed_on c =
    as-handed _ _ _ (Ok c.in-Ok.sent) c.in-Ok.ensures.ok c.in-Ok.ensures.reads_back c.in-Ok.ensures.err c.in-Ok.ensures.worn_out

pub returns-in-Err-clause-handed_on : goal.returns-in-Err-clause-handed_on
returns-in-Err-clause-handed_on c =
    as-handed _ _ _ (Err c.in-Err.fault) c.in-Err.ensures.ok c.in-Err.ensures.reads_back c.in-Err.ensures.err c.in-Err.ensures.worn_out
