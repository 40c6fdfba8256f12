use Rattle.bidi_script_lines.proofs.ScriptPlayLemmas.{nothing_played}
use Rattle.bidi_recorder.proofs.host.Host.new.Goals as goal

pub returns-clause-played : goal.returns-clause-played
returns-clause-played c = nothing_played c.in_ok-new.field-0 c.in_ok-new.ensures.end c.in_ok-new.ensures.script
