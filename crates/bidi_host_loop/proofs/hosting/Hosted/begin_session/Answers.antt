use Rattle.bidi_host_loop.proofs.RunLemmas.{no_call}
use Rattle.bidi_host_loop.proofs.hosting.Hosted.begin_session.Goals as goal

pub returns-in_default : goal.returns-in_default
returns-in_default g c = no_call c.args.self.now.manners.is_lenient c.args.self.now
