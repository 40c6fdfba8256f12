use Rattle.std.proofs.Common.{◌≡◌, take, map}
use Rattle.bidi_tree.specs.Outline.{outline_node}
use Rattle.bidi_params.specs.InfoParts.{info_parts}
use Rattle.bidi_params.specs.InfoView.{tree_of_info}
use Rattle.bidi_params.proofs.browsing_context.info.+write.Given as goal

abbrev pub invariant-outline_infos-loop-info : goal.invariant-outline_infos-loop-info
invariant-outline_infos-loop-info l = map outline_node l.outlines.items ≡ map (tree_of_info info_parts) (take l.info-index l.info-items)
