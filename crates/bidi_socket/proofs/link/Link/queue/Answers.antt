use Rattle.std.proofs.Common.{true≢false, sym, ◌∙◌, refl, arith}
use Rattle.bidi_socket.proofs.SendingLemmas.{joined}
use Rattle.bidi_socket.proofs.link.Link.queue.Goals as goal

pub returns : goal.returns
returns g c = record {
  from_closed = λ is. absurd (true≢false (sym is ∙ c.if-self.false));
  ok = joined g.S.Write.contents _ c.args.self.now c.sent.new.self _ c.write-answer.result c.sent.result c.if-self.false refl
      (rw c.in-Ok.ensures at c.write-answer.ensures.wrote) c.sent.ensures.ok;
  err = grind arith;
}
