use Rattle.std.proofs.Common.{arith}
use Rattle.bidi_shape.proofs.PartLemmas.{next-outlined}
use Rattle.bidi_params.specs.InfoParts.{info_parts}
use Rattle.bidi_params.specs.InfoView.{tree_of_info}
use Rattle.bidi_params.proofs.InfoLemmas.{children_outlined}
use Rattle.bidi_params.proofs.browsing_context.info.+write.Goals as goal

pub outline_infos-loop-info-preserved : goal.outline_infos-loop-info-preserved
outline_infos-loop-info-preserved t c =
    let l = c.loop-info in
    next-outlined (tree_of_info info_parts) c.deref-info-items.result.now l.info-index c.info-item.result l.outlines.items
    c.push.new.self.items c.in_ok-outline_info.field-0 c.in_ok-push.ensures.items (omega arith) l.invariant
    c.in_ok-outline_info.ensures c.info-item.is

pub outline_info-returns-in_ok-outlines-in-Some : goal.outline_info-returns-in_ok-outlines-in-Some
outline_info-returns-in_ok-outlines-in-Some t c =
    children_outlined info_parts c.outline_beside.result c.args.info.now c.in-Some.infos c.in_ok-outlines-in-Some.outlines c.in-Some.is
    c.in_ok-outlines-in-Some.ensures c.outline_beside.ensures
