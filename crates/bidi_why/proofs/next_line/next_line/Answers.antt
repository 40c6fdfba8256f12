use Rattle.bidi_why.proofs.InputLemmas.{finds_skipped}
use Rattle.bidi_why.proofs.next_line.next_line.Goals as goal

pub returns-in-Err-BadLine-clause-finds : goal.returns-in-Err-BadLine-clause-finds
returns-in-Err-BadLine-clause-finds g c =
    finds_skipped _ _ _ c.args.reader.now c.next.new.self c.skip.new.self c.skip.result c.skipped.result (g.S.Source.has_ended c.skip.new.source)
    c.skipped.ensures c.in-Err-BadLine.ensures.bytes c.skip.ensures.skips
