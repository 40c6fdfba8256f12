use Rattle.bidi_host_loop.proofs.RunLemmas.{played_run}
use Rattle.bidi_host_loop.proofs.hosting.Hosted.begin.Goals as goal

pub returns-clause-goes_on : goal.returns-clause-goes_on
returns-clause-goes_on g c first before = played_run first before c.args.self.now c.play_all.new.self c.in_ok-play_all.ensures
