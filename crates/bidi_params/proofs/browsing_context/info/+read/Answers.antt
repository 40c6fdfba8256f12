use Rattle.std.proofs.Common.{map, sym, ap, subst, arith}
use Rattle.bidi_tree.specs.Node.{levels}
use Rattle.bidi_tree.specs.View.{items_of}
use Rattle.bidi_shape.specs.Name.{info}
use Rattle.bidi_shape.specs.Term.{rule}
use Rattle.bidi_shape.specs.Fits.{Fits}
use Rattle.bidi_shape.specs.ListLaws.{AllFit-at}
use Rattle.bidi_shape.specs.Outcome.{handed_on}
use Rattle.bidi_shape.proofs.PartLemmas.{item_levels}
use Rattle.bidi_params.specs.InfoParts.{info_parts}
use Rattle.bidi_params.proofs.InfoLemmas.{found, info_with_children, infos_misfit, no_info, list_levels}
use Rattle.bidi_params.proofs.browsing_context.info.+read.Goals as goal

pub read_info-returns-in_err-beside-clause-no_fit : goal.read_info-returns-in_err-beside-clause-no_fit
read_info-returns-in_err-beside-clause-no_fit g t c =
    handed_on _ _ c.from_residual.ensures.1 c.in_err-beside.ensures.no_fit (no_info info_parts (g.S.Parsed.tree c.args.tree.now))

pub read_info-read_infos-requires : goal.read_info-read_infos-requires
read_info-read_infos-requires g t c κs within =
    let below = list_levels info_parts c.in_ok-beside.beside (items_of (map g.S.Parsed.tree c.in-Some.items.now))
    (g.S.Parsed.tree c.args.tree.now) (found info_parts g.S.Parsed.tree c.in_ok-beside.beside (g.S.Parsed.tree c.args.tree.now)
    c.in_ok-beside.children c.in-Some.items c.in-Some.is c.in_ok-beside.ensures.ok.0) in
    (omega (arith, below), within)

pub read_info-returns-in_err-children-in-Some-clause-no_fit : goal.read_info-returns-in_err-children-in-Some-clause-no_fit
read_info-returns-in_err-children-in-Some-clause-no_fit g t c =
    handed_on _ _ c.from_residual-in_err-children-in-Some.ensures.1 c.in_err-children-in-Some.ensures.no_fit
    (infos_misfit info_parts c.in_ok-beside.beside (items_of (map g.S.Parsed.tree c.in-Some.items.now)) (g.S.Parsed.tree c.args.tree.now)
    (found info_parts g.S.Parsed.tree c.in_ok-beside.beside (g.S.Parsed.tree c.args.tree.now) c.in_ok-beside.children c.in-Some.items
    c.in-Some.is c.in_ok-beside.ensures.ok.0))

pub read_info-returns-in_ok-children-in-Some-clause-ok : goal.read_info-returns-in_ok-children-in-Some-clause-ok
read_info-returns-in_ok-children-in-Some-clause-ok g t c =
    info_with_children info_parts g.S.Parsed.tree c.with_children.result c.in_ok-beside.beside c.in_ok-children-in-Some.children
    c.in-Some.items.now (g.S.Parsed.tree c.args.tree.now) c.with_children.ensures (found info_parts g.S.Parsed.tree c.in_ok-beside.beside
    (g.S.Parsed.tree c.args.tree.now) c.in_ok-beside.children c.in-Some.items c.in-Some.is c.in_ok-beside.ensures.ok.0) c.in_ok-beside.ensures.ok.1
    c.in_ok-children-in-Some.ensures.ok.0 c.in_ok-children-in-Some.ensures.ok.1

pub read_infos-read_info-requires : goal.read_infos-read_info-requires
read_infos-read_info-requires g t c κs within =
    let up = item_levels g.S.Parsed.tree c.args.items.now c.loop-item.item-index c.item-item.result (omega arith) in
    let same = ap (λ x. levels (g.S.Parsed.tree x)) c.item-item.is in
    (omega (arith, up, same), within)

pub read_infos-returns-in_err-read_info-clause-no_fit : goal.read_infos-returns-in_err-read_info-clause-no_fit
read_infos-returns-in_err-read_info-clause-no_fit g t c =
    handed_on _ _ c.from_residual-in_err-read_info.ensures.1 c.in_err-read_info.ensures.no_fit (λ bad a.
    bad (subst (λ x. Fits (g.S.Parsed.tree x) (rule info)) (sym c.item-item.is)
    (AllFit-at g.S.Parsed.tree (rule info) c.args.items.now c.loop-item.item-index c.item-item.result (omega arith) a)))
