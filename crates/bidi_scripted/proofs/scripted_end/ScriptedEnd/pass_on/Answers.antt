use Rattle.bidi_sessions.specs.Step as steps
use Rattle.bidi_scripted.proofs.FateLemmas.{as-handed}
use Rattle.bidi_scripted.proofs.scripted_end.ScriptedEnd.pass_on.Goals as goal

pub returns-clause-handed_on : goal.returns-clause-handed_on
returns-clause-handed_on c =
    as-handed (steps.Text c.args.conn.value c.args.text.now) _ _ c.hear.result c.hear.ensures.ok c.hear.ensures.reads_back c.hear.ensures.err c.hear.ensures.worn_out
