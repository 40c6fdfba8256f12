use Rattle.std.proofs.Common.{◌∙◌, sym}
use Rattle.bidi_tree.specs.Json.{parsed}
use Rattle.bidi_remarks.specs.Trouble.{fits_none, misfit_of}
use Rattle.bidi_remarks.proofs.FindingLemmas.{command_fits, command_misfits, command_refused, command_taken}
use Rattle.bidi_remarks.proofs.finding.command_trouble.Goals as goal

pub returns-in-None : goal.returns-in-None
returns-in-None c = λ line read small.
    let t = parsed c.args.value.now in
    command_taken line t read small (command_fits t c.from_tree.result c.from_tree.ensures.ok (sym c.err.ensures.value ∙ c.in-None.is))

pub misfit_in-requires : goal.misfit_in-requires
misfit_in-requires c =
    command_misfits (parsed c.args.value.now) c.from_tree.result c.in-Some-NoFit.field-0 c.from_tree.ensures.no_fit
    (sym c.err.ensures.value ∙ c.in-Some-NoFit.is) c.in-Some-NoFit.field-0-is

pub returns-in_ok-misfit_in-in-Some-NoFit : goal.returns-in_ok-misfit_in-in-Some-NoFit
returns-in_ok-misfit_in-in-Some-NoFit c = λ line read small.
    let t = parsed c.args.value.now in
    let none = command_misfits t c.from_tree.result c.in-Some-NoFit.field-0 c.from_tree.ensures.no_fit
    (sym c.err.ensures.value ∙ c.in-Some-NoFit.is) c.in-Some-NoFit.field-0-is in
    let told = c.in_ok-misfit_in-in-Some-NoFit in
    (command_refused line t read small none, fits_none t (misfit_of told.field-0) read small told.ensures)
