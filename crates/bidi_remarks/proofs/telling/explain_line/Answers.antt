use Rattle.std.specs.Prelude.{Some}
use Rattle.bidi_remarks.specs.Explaining.{is_taken, told_of}
use Rattle.bidi_remarks.specs.Trouble.{HasTroubleAt, trouble_of}
use Rattle.bidi_remarks.proofs.FindingLemmas.{explained}
use Rattle.bidi_remarks.proofs.telling.explain_line.Goals as goal

pub returns-in_default : goal.returns-in_default
returns-in_default c = is_taken (rw c.in_default.is at c.in_ok-trouble.ensures)

pub returns : goal.returns
returns c =
    let x = trouble_of c.in-Some.trouble in
    let h : HasTroubleAt c.args.side c.args.number c.args.line.now (Some x) = rw c.in-Some.is at c.in_ok-trouble.ensures in
    explained c.args.form c.args.side c.args.number c.args.line.now (told_of c.in_ok-explain.field-0) x h.0 h.1 c.in_ok-explain.ensures
