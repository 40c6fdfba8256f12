use Rattle.std.proofs.Common.{None, Some, option_map}
use Rattle.bidi_tree.specs.Outline.{outline_node}
use Rattle.bidi_shape.specs.Term.{rule}
use Rattle.bidi_rules.specs.Names.{name_of}
use Rattle.bidi_blame.specs.Blames.{Judged}
use Rattle.bidi_blame.specs.View.{reason_of}
use Rattle.bidi_remarks.specs.Trouble.{misfit_of}
use Rattle.bidi_remarks.proofs.RestLemmas.{fits_in_rest, found_in_rest}
use Rattle.bidi_remarks.proofs.misfit.fault_in_rest.Goals as goal

pub returns-in_default : goal.returns-in_default
returns-in_default c =
    let rest = outline_node c.in_ok-rest.rest in
    let fits : Judged rest (rule (name_of c.args.name)) None = rw c.in_default.is at c.in_ok-reason.ensures.judged in
    fits_in_rest (name_of c.args.name) (option_map (λ n. n.value) c.args.id) (option_map (λ s. s.now) c.args.method) (outline_node c.args.tree.now) rest c.in_ok-rest.ensures fits

pub returns : goal.returns
returns c =
    let rest = outline_node c.in_ok-rest.rest in
    let r = reason_of c.in-Some.reason in
    let blamed : Judged rest (rule (name_of c.args.name)) (Some r) = rw c.in-Some.is at c.in_ok-reason.ensures.judged in
    found_in_rest (name_of c.args.name) (option_map (λ n. n.value) c.args.id) (option_map (λ s. s.now) c.args.method) (outline_node c.args.tree.now) rest r (misfit_of c.in_ok-misfit.misfit)
    (option_map misfit_of c.unless_beyond.result) c.in_ok-rest.ensures blamed c.in_ok-misfit.ensures c.unless_beyond.ensures
