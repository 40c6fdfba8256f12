use Rattle.bidi_sessions.specs.Step.{Open}
use Rattle.bidi_script_lines.specs.ScriptLines.{Plain}
use Rattle.bidi_host_loop.proofs.RunLemmas.{takes_done}
use Rattle.bidi_host_loop.proofs.hosting.Hosted.opens.Goals as goal

pub returns : goal.returns
returns g c =
    takes_done (Plain (Open c.args.conn.value c.args.resource.now)) c.args.self.now c.deliver.new.self c.opened.new.self.end
    c.in_ok-taken.taken c.in_ok-taken.ensures.taken c.in_ok-deliver.ensures.0 c.in_ok-deliver.ensures.1 c.in_ok-deliver.ensures.2
