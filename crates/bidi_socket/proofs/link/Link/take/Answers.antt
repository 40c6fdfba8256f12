use Rattle.std.proofs.Common.{true≢false, sym, ◌∙◌, Ok}
use Rattle.bidi_socket.proofs.TakingLemmas.{breaks-off-takes, fails-takes}
use Rattle.bidi_socket.proofs.link.Link.take.Goals as goal

pub returns-in-Ok-clause-takes : goal.returns-in-Ok-clause-takes
returns-in-Ok-clause-takes g c = record {
  from_closed = λ is. absurd (true≢false (sym is ∙ c.if-self.false));
  from_open =
      λ is.
      record { answer = Ok c.in-Ok.message; read = c.read.new.self; reads = c.in-Ok.ensures; told = c.receive.ensures.tells; settles = c.receive.ensures.settles };
  closes = c.receive.ensures.ends;
}

pub returns-in-Some-clause-takes : goal.returns-in-Some-clause-takes
returns-in-Some-clause-takes g c = record {
  from_closed = λ is. absurd (true≢false (sym is ∙ c.if-self.false));
  from_open =
      λ is.
      breaks-off-takes g.S.Read.remaining g.S.Write.contents c.args.self.now.socket c.read.new.self c.break_off.new.self.socket c.in-Err.error c.in-Some.code
      c.break_off.result (sym c.code_of.ensures ∙ c.in-Some.is) c.in-Err.ensures c.break_off.ensures.answers;
  closes = λ is. c.break_off.ensures.ends;
}

pub returns-in-None-clause-takes : goal.returns-in-None-clause-takes
returns-in-None-clause-takes g c = record {
  from_closed = λ is. absurd (true≢false (sym is ∙ c.if-self.false));
  from_open =
      λ is.
      fails-takes g.S.Read.remaining g.S.Write.contents c.args.self.now.socket c.read.new.self c.fail.new.self.socket c.in-Err.error _
      (sym c.code_of.ensures ∙ c.in-None.is) c.in-Err.ensures c.fail.ensures.tells c.fail.ensures.settles;
  closes = c.fail.ensures.ends;
}
