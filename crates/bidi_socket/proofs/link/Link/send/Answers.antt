use Rattle.bidi_socket.proofs.SendingLemmas.{queued-sent}
use Rattle.bidi_socket.proofs.link.Link.send.Goals as goal

pub returns : goal.returns
returns g c =
    queued-sent g.S.Write.contents c.args.text.now c.args.self.now c.queue.new.self c.flush.new.self c.flush.result c.in_ok-queue.ensures c.flush.ensures
