use Rattle.bidi_sessions.specs.Step.{NotText}
use Rattle.bidi_script_lines.specs.ScriptLines.{Plain}
use Rattle.bidi_host_loop.proofs.RunLemmas.{takes_done}
use Rattle.bidi_host_loop.proofs.hosting.Hosted.hears_no_text.Goals as goal

pub returns : goal.returns
returns g c =
    takes_done (Plain (NotText c.args.conn.value)) c.args.self.now c.deliver.new.self c.heard_no_text.new.self.end
    c.in_ok-taken.taken c.in_ok-taken.ensures.taken c.in_ok-deliver.ensures.0 c.in_ok-deliver.ensures.1 c.in_ok-deliver.ensures.2
