use Rattle.std.proofs.Common.{Some}
use Rattle.bidi_tree.specs.Outline.{outline_node}
use Rattle.bidi_shape.specs.Term.{rule}
use Rattle.bidi_rules.specs.Names.{name_of}
use Rattle.bidi_blame.specs.Blames.{Judged}
use Rattle.bidi_blame.specs.View.{reason_of}
use Rattle.std.proofs.lemmas.Result.{IfOk-weaker}
use Rattle.bidi_remarks.proofs.misfit.find_misfit.Goals as goal

pub returns : goal.returns
returns c =
    let t = outline_node c.args.tree.now in
    let r = reason_of c.in-Some.reason in
    let blamed : Judged t (rule (name_of c.args.name)) (Some r) = rw c.in-Some.is at c.in_ok-reason.ensures.judged in
    IfOk-weaker c.first_fault.result _ _ (λ m told. told r blamed c.in_ok-first.ensures) c.first_fault.ensures
