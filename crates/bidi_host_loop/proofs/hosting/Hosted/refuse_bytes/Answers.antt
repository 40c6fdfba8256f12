use Rattle.bidi_host_loop.proofs.RunLemmas.{said_bytes_run}
use Rattle.bidi_host_loop.proofs.hosting.Hosted.refuse_bytes.Goals as goal

pub returns : goal.returns
returns g c first before = said_bytes_run c.args.place _ first before c.args.self.now c.answer_at.new.self c.in_ok-answer_at.ensures
