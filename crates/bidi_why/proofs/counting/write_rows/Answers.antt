use Rattle.std.proofs.Common.{◌∙◌, ◌++◌, ◌<◌, ◌≤◌, length, ap, arith, subst}
use Rattle.std.proofs.KnownBytes.{Appends-trans}
use Rattle.std.specs.Io.KnownBytes.{Appends}
use Rattle.bidi_lines.specs.Devices.{AppendsBeginning}
use Rattle.bidi_lines.proofs.DeviceLemmas.{OnErr-anyhow}
use Rattle.bidi_why.specs.Counting.{row_line, row_of}
use Rattle.bidi_why.specs.declared.counting.Cause.{Cause}
use Rattle.bidi_why.proofs.SummaryLemmas.{parts_end, parts_fail, parts_more, row_lines}
use Rattle.bidi_why.proofs.counting.write_rows.Goals as goal

pub loop-row-preserved : goal.loop-row-preserved
loop-row-preserved g c =
    let l = c.loop-row in
    let rows = c.args.rows.now in
    let (done, whole, appended) = l.invariant.writes in
    let few : l.row-index < length rows = omega (arith, c.loop-row-test.true, l.auto.row-index-end) in
    let is = ap (λ (r : Cause). row_line (row_of r)) c.row-item.is in
    record {
      writes = (
        done ++ _,
        parts_more (λ (r : Cause). row_line (row_of r)) done _ rows l.row-index c.row-item.result _ few is whole,
        Appends-trans _ _ _ _ _ appended c.in_ok-write_row.ensures.ok,
      );
      counts = c.in_ok-write_row.ensures.counts ∙ l.invariant.counts;
    }

pub returns-in_err-write_row-clause-err : goal.returns-in_err-write_row-clause-err
returns-in_err-write_row-clause-err g c =
    let l = c.loop-row in
    let rows = c.args.rows.now in
    let (done, whole, appended) = l.invariant.writes in
    let few : l.row-index < length rows = omega (arith, c.loop-row-test.true, l.auto.row-index-end) in
    let is = ap (λ (r : Cause). row_line (row_of r)) c.row-item.is in
    OnErr-anyhow _ (subst (AppendsBeginning _ _) (row_lines rows)
    (parts_fail (λ (r : Cause). row_line (row_of r)) done _ _ _ _ rows l.row-index c.row-item.result _ few is whole appended c.in_err-write_row.ensures.err))

pub returns-clause-ok : goal.returns-clause-ok
returns-clause-ok g c =
    let l = c.loop-row in
    let rows = c.args.rows.now in
    let (done, whole, appended) = l.invariant.writes in
    let all : length rows ≤ l.row-index = omega (arith, c.loop-row-test.false, l.auto.row-index-end) in
    subst (Appends _ _) (parts_end (λ (r : Cause). row_line (row_of r)) done _ rows l.row-index all whole ∙ row_lines rows) appended
