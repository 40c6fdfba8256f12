use Rattle.std.proofs.Common.{sym}
use Rattle.bidi_show.specs.MessageLines.{HasTree}
use Rattle.bidi_tree.specs.Json.{parsed}
use Rattle.bidi_remarks.specs.Trouble.{HasNoTree, fits_none, is_large, misfit_of}
use Rattle.bidi_remarks.proofs.FindingLemmas.{bad_line}
use Rattle.bidi_remarks.proofs.finding.trouble_in.Goals as goal

pub returns-in-Ok : goal.returns-in-Ok
returns-in-Ok c =
    let t = parsed c.in-Ok.field-0 in
    let has : HasTree c.args.line.now t = rw c.in-Ok.is at c.in_ok-value_in.ensures in
    is_large t has (sym c.if-is_too_large.ensures)

pub returns-in_ok-misfit_in-in-Ok-2 : goal.returns-in_ok-misfit_in-in-Ok-2
returns-in_ok-misfit_in-in-Ok-2 c =
    let t = parsed c.in-Ok.field-0 in
    let has : HasTree c.args.line.now t = rw c.in-Ok.is at c.in_ok-value_in.ensures in
    fits_none t (misfit_of c.in_ok-misfit_in-in-Ok-2.field-0) has (sym c.if-is_too_large.ensures) c.in_ok-misfit_in-in-Ok-2.ensures

pub returns-in-Err : goal.returns-in-Err
returns-in-Err c =
    let none : HasNoTree c.args.line.now c.in-Err.bad = rw c.in-Err.is at c.in_ok-value_in.ensures in
    bad_line c.args.side c.args.line.now c.in-Err.bad none
