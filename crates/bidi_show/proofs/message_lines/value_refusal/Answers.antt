use Rattle.std.proofs.Common.{Some, ◌∙◌, sym, ap}
use Rattle.std.specs.Prelude.{codes}
use Rattle.bidi_tree.specs.Json.{parsed}
use Rattle.bidi_show.specs.MessageLines.{Refused, fits_none}
use Rattle.bidi_show.proofs.MessageLineLemmas.{known_refused, read_refused, no_message}
use Rattle.bidi_show.proofs.message_lines.value_refusal.Goals as goal

pub returns-then-is_some-clause-refuses : goal.returns-then-is_some-clause-refuses
returns-then-is_some-clause-refuses c = known_refused (parsed c.args.value.now) c.response_id.result (sym c.if-is_some.ensures) c.response_id.ensures.fits

pub returns-in-None-clause-refuses : goal.returns-in-None-clause-refuses
returns-in-None-clause-refuses c = read_refused (parsed c.args.value.now) c.message_of.result c.message_of.ensures.ok (sym c.err.ensures.value ∙ c.in-None.is)

pub returns-in_ok-from_str-in-Some-NoFit-clause-refuses : goal.returns-in_ok-from_str-in-Some-NoFit-clause-refuses
returns-in_ok-from_str-in-Some-NoFit-clause-refuses c = λ line read.
    let t = parsed c.args.value.now in
    let misfit = no_message t c.message_of.result c.in-Some-NoFit.field-0 c.message_of.ensures.err (sym c.err.ensures.value ∙ c.in-Some-NoFit.is) c.in-Some-NoFit.field-0-is in
    (Refused (codes "no fit"), fits_none t read misfit, ap Some c.in_ok-from_str-in-Some-NoFit.ensures.ok)

pub returns-in_ok-from_str-in-Some-NoFit-clause-misfit : goal.returns-in_ok-from_str-in-Some-NoFit-clause-misfit
returns-in_ok-from_str-in-Some-NoFit-clause-misfit c =
    no_message (parsed c.args.value.now) c.message_of.result c.in-Some-NoFit.field-0 c.message_of.ensures.err (sym c.err.ensures.value ∙ c.in-Some-NoFit.is)
    c.in-Some-NoFit.field-0-is
