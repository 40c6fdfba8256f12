use Rattle.bidi_show.specs.MessageLines.{HasTree}
use Rattle.bidi_tree.specs.Json.{parsed}
use Rattle.bidi_remarks.specs.Trouble.{HasNoTree, of_none}
use Rattle.bidi_remarks.proofs.FindingLemmas.{id_found, treeless}
use Rattle.bidi_remarks.proofs.finding.line_id.Goals as goal

pub returns-in-Ok : goal.returns-in-Ok
returns-in-Ok c =
    let t = parsed c.in-Ok.value in
    let has : HasTree c.args.line.now t = rw c.in-Ok.is at c.in_ok-value.ensures in
    id_found c.args.line.now t c.value_id.result has c.value_id.ensures

pub returns-in-Err : goal.returns-in-Err
returns-in-Err c =
    let none : HasNoTree c.args.line.now c.in-Err._bad = rw c.in-Err.is at c.in_ok-value.ensures in
    of_none (treeless c.args.line.now c.in-Err._bad none)
