use Rattle.std.proofs.Common.{[], refl, arith}
use Rattle.std.proofs.KnownBytes.{Consumes-nil}
use Rattle.bidi_lines.proofs.ResultLemmas.{by_fault}
use Rattle.bidi_lines.specs.declared.answering.LinesFault.TheVariants.{NoMemory}
use Rattle.bidi_pair_lines.proofs.PairLemmas.{read_none, read_stop, reads_all}
use Rattle.bidi_pair_lines.proofs.reading.read_steps.Goals as goal

pub returns-in_err-reader-clause-err : goal.returns-in_err-reader-clause-err
returns-in_err-reader-clause-err g c = by_fault c.from_residual.result NoMemory _ c.from_residual.ensures
    ([], Consumes-nil _, ([], [], record { front = refl; each = tt }, (([], tt), refl), omega arith, tt))

pub answer_lines-requires : goal.answer_lines-requires
answer_lines-requires g c = read_none c.in_ok-reader.reader c.in_ok-reader.ensures

pub returns-in_err-answer_lines-clause-err : goal.returns-in_err-answer_lines-clause-err
returns-in_err-answer_lines-clause-err g c =
    let f = c.in_err-answer_lines.field-0.0 in
    let (read, wrote, consumes, appends, stops) = c.in_err-answer_lines.ensures.err in
    by_fault c.from_residual-in_err-answer_lines.result f _ c.from_residual-in_err-answer_lines.ensures
    (read, consumes, read_stop c.in_ok-reader.reader f (g.R.Source.has_ended c.answer_lines.new.source) read wrote stops)

pub returns-in_err-answer_lines-clause-no_write : goal.returns-in_err-answer_lines-clause-no_write
returns-in_err-answer_lines-clause-no_write g c =
    let f = c.in_err-answer_lines.field-0.0 in
    let none = c.in_err-answer_lines.ensures.writes in
    by_fault c.from_residual-in_err-answer_lines.result f _ c.from_residual-in_err-answer_lines.ensures (omega (arith, none))

pub returns-clause-ok : goal.returns-clause-ok
returns-clause-ok g c =
    let (read, wrote, consumes, appends, all) = c.in_ok-answer_lines.ensures.ok in
    (read, consumes, reads_all c.in_ok-reader.reader c.answer_lines.new.answerer read wrote all)

pub returns-clause-well : goal.returns-clause-well
returns-clause-well g c = let (read, wrote, consumes, appends, (lines, b, p, few)) = c.in_ok-answer_lines.ensures.ok in p.well
