use Rattle.std.proofs.Common.{◌≤◌, rules, subst}
use Rattle.bidi_tree.specs.Node.{levels}
use Rattle.bidi_shape.proofs.PartLemmas.{some_well}
use Rattle.bidi_params.specs.InfoParts.{info_parts}
use Rattle.bidi_params.specs.InfoView.{OwnMembers}
use Rattle.bidi_params.specs.declared.browsing_context.info.Info.{the_lemmas}
use Rattle.bidi_params.proofs.InfoLemmas.{info_made}
use Rattle.bidi_params.proofs.PartLemmas.{text_or_null}
use Rattle.bidi_params.proofs.browsing_context.info.Info.new.Goals as goal

pub returns-then-is_within-clause-well : goal.returns-then-is_within-clause-well
returns-then-is_within-clause-well c =
    let beside : OwnMembers =
    (c.args.client_window, (c.args.context, (c.args.original_opener, (c.args.url, (c.args.user_context, (c.args.parent, c.in_ok-ext.ext)))))) in
    info_made info_parts _ beside c.args.children (search (rules, the_lemmas)) (
      (tt, (tt, (text_or_null c.args.original_opener, (tt, (tt, (some_well text_or_null c.args.parent, tt)))))),
      record { no_known = c.in_ok-ext.ensures.unnamed; may = search rules },
    )
    c.requires.children (subst (λ t. levels t ≤ 60) c.in_ok-outline.ensures (search rules))
