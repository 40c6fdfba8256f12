use Rattle.std.proofs.Common.{sym, ap, ◌∙◌}
use Rattle.bidi_tree.specs.View.{node}
use Rattle.bidi_lenient.specs.Names.{is_capability}
use Rattle.bidi_lenient.proofs.ReportLemmas.{told-entry}
use Rattle.bidi_lenient.proofs.capabilities.tell_request.Goals as goal

pub loop-name-preserved-in_ok-push : goal.loop-name-preserved-in_ok-push
loop-name-preserved-in_ok-push c =
    let out = ap (λ name. is_capability name (node c.in-Some.value.now)) (sym c.as_str.ensures.value) ∙ sym c.if-is_left_out.ensures in
    told-entry c.loop-name.told.items _ c.in_ok-format.field-0 (c.in-Some.name.now, c.in-Some.value.now) _ _ _
    out c.in_ok-format.ensures.ok c.in_ok-push.ensures.items c.in-Some.ensures.steps c.loop-name.invariant
