use Rattle.bidi_link.proofs.StepLemmas.{up-carried, up-not}
use Rattle.bidi_link.proofs.ends.Ends.carry_up.Goals as goal

pub returns-in-Some-clause-ok : goal.returns-in-Some-clause-ok
returns-in-Some-clause-ok c = λ past stands sane.
    up-carried c.hand.result c.next_up.new.self c.hand.new.self past c.args.number.value _ (c.in-Some.ensures.some past stands) sane c.hand.ensures.ok

pub returns-in-None-clause-ok : goal.returns-in-None-clause-ok
returns-in-None-clause-ok c = λ past stands sane. up-not c.next_up.new.self past c.args.number.value (c.in-None.ensures.none past stands) sane

pub returns-in-Some-clause-worn_out : goal.returns-in-Some-clause-worn_out
returns-in-Some-clause-worn_out c = λ past stands worn. c.hand.ensures.worn_out _ (c.in-Some.ensures.some past stands).2 worn
