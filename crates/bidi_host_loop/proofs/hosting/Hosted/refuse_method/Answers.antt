use Rattle.bidi_host_loop.proofs.RunLemmas.{no_call}
use Rattle.bidi_host_loop.proofs.hosting.Hosted.refuse_method.Goals as goal

pub returns : goal.returns
returns c = no_call c.args.self.now.manners.is_lenient c.args.self.now
