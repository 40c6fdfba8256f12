use Rattle.bidi_script_lines.proofs.ScriptPlayLemmas.{nothing_played}
use Rattle.bidi_recorder.proofs.host.Host.reset.Goals as goal

pub returns-clause-fresh : goal.returns-clause-fresh
returns-clause-fresh c = (nothing_played c.in_ok-self.field-0 c.in_ok-self.ensures.end c.in_ok-self.ensures.script, c.in_ok-self.ensures.script)
