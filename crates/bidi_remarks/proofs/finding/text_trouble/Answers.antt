use Rattle.std.proofs.Common.{sym}
use Rattle.std.proofs.lemmas.Result.{IfOk-weaker}
use Rattle.bidi_show.specs.MessageLines.{HasTree}
use Rattle.bidi_tree.specs.Json.{parsed}
use Rattle.bidi_remarks.specs.Trouble.{HasNoTree, is_large}
use Rattle.bidi_remarks.proofs.FindingLemmas.{large_refused, no_tree}
use Rattle.bidi_remarks.proofs.finding.text_trouble.Goals as goal

pub returns-in-Ok : goal.returns-in-Ok
returns-in-Ok c =
    let t = parsed c.in-Ok.field-0 in
    let has : HasTree c.args.line.now t = rw c.in-Ok.is at c.in_ok-value_in.ensures in
    let large = sym c.if-is_too_large.ensures in
    (large_refused c.args.side c.args.line.now t has large, is_large t has large)

pub returns-in-Ok-2 : goal.returns-in-Ok-2
returns-in-Ok-2 c =
    let has : HasTree c.args.line.now (parsed c.in-Ok.field-0) = rw c.in-Ok.is at c.in_ok-value_in.ensures in
    let small = sym c.if-is_too_large.ensures in
    IfOk-weaker c.value_trouble.result _ _ (λ found h. h c.args.line.now has small) c.value_trouble.ensures

pub returns-in-Err : goal.returns-in-Err
returns-in-Err c =
    let none : HasNoTree c.args.line.now c.in-Err.bad = rw c.in-Err.is at c.in_ok-value_in.ensures in
    no_tree c.args.side c.args.line.now c.in-Err.bad none
