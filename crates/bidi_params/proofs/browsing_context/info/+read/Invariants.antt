use Rattle.std.proofs.Common.{◌≡◌, ◌+◌, ◌*◌, take, map}
use Rattle.std.specs.List.{AllByRecursion}
use Rattle.bidi_tree.specs.Node.{levels, items_levels}
use Rattle.bidi_tree.specs.View.{items_of}
use Rattle.bidi_params.specs.InfoParts.{info_parts}
use Rattle.bidi_params.specs.InfoView.{tree_of_info, InfoIsWell}
use Rattle.bidi_params.proofs.browsing_context.info.+read.Given as goal

abbrev pub decreases-read_info : goal.decreases-read_info
decreases-read_info g l = 2 * levels (g.S.Parsed.tree l.tree.now) + 1

abbrev pub decreases-read_infos : goal.decreases-read_infos
decreases-read_infos g l = 2 * items_levels (items_of (map g.S.Parsed.tree l.items.now)) + 2

abbrev pub invariant-read_infos-loop-item : goal.invariant-read_infos-loop-item
invariant-read_infos-loop-item g l =
    (map (tree_of_info info_parts) l.infos.items ≡ map g.S.Parsed.tree (take l.item-index l.items))
    × AllByRecursion (InfoIsWell info_parts) l.infos.items
