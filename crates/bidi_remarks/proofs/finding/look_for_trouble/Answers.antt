use Rattle.std.specs.Prelude.{Some}
use Rattle.std.proofs.Common.{sym}
use Rattle.bidi_remarks.specs.Trouble.{HasTrouble, is_marked, is_unmarked, trouble_of}
use Rattle.bidi_remarks.proofs.finding.look_for_trouble.Goals as goal

pub returns-then-begins_with_mark : goal.returns-then-begins_with_mark
returns-then-begins_with_mark c =
    let h : HasTrouble c.args.side c.args.line.now (Some (trouble_of c.in-Some.trouble)) = rw c.in-Some.is at c.in_ok-trouble.ensures in
    (h.0, is_marked (sym c.if-begins_with_mark.ensures))

pub returns : goal.returns
returns c =
    let x = trouble_of c.in-Some.trouble in
    let h : HasTrouble c.args.side c.args.line.now (Some x) = rw c.in-Some.is at c.in_ok-trouble.ensures in
    (h.0, is_unmarked x (sym c.if-begins_with_mark.ensures) h.1)
