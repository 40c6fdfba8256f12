use Rattle.bidi_lines.proofs.ResultLemmas.{if_some_at}
use Rattle.bidi_pair_lines.proofs.PairLemmas.{read_more}
use Rattle.bidi_pair_lines.proofs.reading.StepReaderAnswerer.answer.Goals as goal

pub returns-clause-ok : goal.returns-clause-ok
returns-clause-ok c first lines text p counted =
    let x = c.in-Some.step in
    read_more first c.args.self.now _ lines c.args.line.now text c.new.result.items x p
    (if_some_at c.in_ok-step.field-0 x _ c.in_ok-step.ensures.some c.in-Some.is) c.in_ok-add_step.ensures c.new.ensures.items
