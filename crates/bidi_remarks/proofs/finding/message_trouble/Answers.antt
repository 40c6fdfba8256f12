use Rattle.bidi_tree.specs.Json.{parsed}
use Rattle.bidi_lines.specs.declared.side.Side.TheVariants.{Remote}
use Rattle.bidi_remarks.specs.Trouble.{misfit_of}
use Rattle.bidi_remarks.proofs.FindingLemmas.{said, taken, value_refused}
use Rattle.bidi_remarks.proofs.finding.message_trouble.Goals as goal

pub returns-then-is_none : goal.returns-then-is_none
returns-then-is_none c = λ line read. taken Remote line c.in_ok-value_refusal.field-0 c.if-is_none.ensures (c.in_ok-value_refusal.ensures.refuses line read)

pub misfit_in-requires : goal.misfit_in-requires
misfit_in-requires c = said c.in_ok-value_refusal.field-0 c.if-is_none.ensures c.in_ok-value_refusal.ensures.misfit

pub returns : goal.returns
returns c =
    value_refused (parsed c.args.value.now) c.in_ok-value_refusal.field-0 (misfit_of c.in_ok-misfit_in.field-0) c.if-is_none.ensures
    c.in_ok-value_refusal.ensures.refuses c.in_ok-misfit_in.ensures
