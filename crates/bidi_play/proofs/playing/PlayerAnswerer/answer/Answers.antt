use Rattle.std.proofs.Common.{ap, subst, ◌∙◌, arith, reverse, Err}
use Rattle.std.proofs.lemmas.List.{length-reverse}
use Rattle.bidi_remote.specs.Machine.Messages.{AllReadBack}
use Rattle.bidi_remote.proofs.HeardLemmas.{length-heard}
use Rattle.bidi_lines.proofs.ResultLemmas.{match_some}
use Rattle.bidi_play.specs.Lines.{written}
use Rattle.bidi_play.proofs.PlayLemmas.{length-said, played_more}
use Rattle.bidi_play.proofs.playing.PlayerAnswerer.answer.Goals as goal

pub returns-in_ok-lines_of-in-Ok-Some-clause-ok : goal.returns-in_ok-lines_of-in-Ok-Some-clause-ok
returns-in_ok-lines_of-in-Ok-Some-clause-ok c first lines text p counted =
    let took = match_some c.in-Ok-Some.field-0 c.in-Ok-Some.sent _ _ c.in-Ok-Some.ensures.ok c.in-Ok-Some.field-0-is in
    let history = reverse p.inputs in
    let sends = took.sent history p.stands in
    let short = took.few history p.stands in
    played_more c.args.self.now.end c.take_line.new.end lines c.args.line.now text c.in_ok-lines_of-in-Ok-Some.field-0.items took.step took.input p
    took.says took.can took.heard (omega (arith, short, length-reverse p.inputs, length-heard p.steps p.inputs p.heard))
    (c.in_ok-lines_of-in-Ok-Some.ensures ∙ ap written sends) (subst AllReadBack sends (took.reads_back history p.stands)) (took.stands history p.stands)

pub returns-in-Err-WornOut-clause-worn_out : goal.returns-in-Err-WornOut-clause-worn_out
returns-in-Err-WornOut-clause-worn_out c first lines text p worn =
    let (says, many) = c.in-Err-WornOut.ensures.worn_out (reverse p.inputs) p.stands (ap Err c.in-Err-WornOut.field-0-is) in
    let few = p.few in
    (omega (arith, many, few, length-said lines p.steps p.say, length-reverse p.inputs, length-heard p.steps p.inputs p.heard), says)
