use Rattle.std.proofs.Common.{[], ◌∷◌, Some, codes, map, option_map, refl}
use Rattle.bidi_tree.specs.Kind.{members_in}
use Rattle.bidi_tree.specs.View.{items_of}
use Rattle.bidi_shape.specs.Name.{info}
use Rattle.bidi_shape.specs.Term.{rule}
use Rattle.bidi_shape.specs.Outcome.{handed_on}
use Rattle.bidi_shape.specs.Table.{table_read}
use Rattle.bidi_params.specs.InfoLaws.{names, rows_with, children_node}
use Rattle.bidi_params.specs.InfoParts.{info_parts}
use Rattle.bidi_params.proofs.InfoLemmas.{beside_misfit, children_misfit}
use Rattle.bidi_params.proofs.browsing_context.info.read_beside.Goals as goal

pub returns-in_err-beside-clause-no_fit : goal.returns-in_err-beside-clause-no_fit
returns-in_err-beside-clause-no_fit g c =
    handed_on _ _ c.from_residual-in_err-beside.ensures.1 c.in_err-beside.ensures.no_fit
    (λ bad. beside_misfit info_parts (g.S.Parsed.tree c.args.tree.now) (members_in (g.S.Parsed.tree c.args.tree.now)) c.in_ok-check_map.ensures.ok bad refl)

pub returns-in_err-children-clause-no_fit : goal.returns-in_err-children-clause-no_fit
returns-in_err-children-clause-no_fit g c =
    handed_on _ _ c.from_residual-in_err-children.ensures.1 c.in_err-children.ensures.no_fit
    (children_misfit info_parts (g.S.Parsed.tree c.args.tree.now) (members_in (g.S.Parsed.tree c.args.tree.now)) c.in_ok-check_map.ensures.ok)

pub returns-clause-ok : goal.returns-clause-ok
returns-clause-ok g c =
    let f = c.in_ok-beside.beside in
    let part = children_node (option_map (λ x. items_of (map g.S.Parsed.tree x.now)) c.in_ok-children.children) in
    let p = table_read (codes "children" ∷ names) (rows_with info_parts.table (rule info)) info_parts.table.openness (Some part ∷ info_parts.table.parts [] f)
    (members_in (g.S.Parsed.tree c.args.tree.now)) (info_parts.table.others f) (g.S.Parsed.tree c.args.tree.now)
    (record { names = refl; once = refl }) c.in_ok-check_map.ensures.ok (c.in_ok-children.ensures.ok, c.in_ok-beside.ensures.ok.0)
    c.in_ok-beside.ensures.sorted c.in_ok-beside.ensures.rest.0 c.in_ok-beside.ensures.rest.1 in
    (p.0, (c.in_ok-beside.ensures.ok.1, p.1))
