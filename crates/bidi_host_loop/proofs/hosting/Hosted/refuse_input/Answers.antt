use Rattle.bidi_host_loop.proofs.RunLemmas.{entered_bytes_run}
use Rattle.bidi_host_loop.proofs.hosting.Hosted.refuse_input.Goals as goal

pub returns : goal.returns
returns g c first before = entered_bytes_run _ first before c.args.self.now c.answer_line.new.self c.in_ok-answer_line.ensures
