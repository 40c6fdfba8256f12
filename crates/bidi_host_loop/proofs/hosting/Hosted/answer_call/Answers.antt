use Rattle.bidi_host_loop.proofs.RunLemmas.{called_run}
use Rattle.bidi_host_loop.proofs.hosting.Hosted.answer_call.Goals as goal

pub returns : goal.returns
returns g c first before =
    called_run c.args.place first before c.args.self.now c.carry_out_call.new.self c.reply.new.self c.in_ok-reply.ensures c.in_ok-reply-2.ensures
