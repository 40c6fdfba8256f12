use Rattle.bidi_tree.specs.Node as kind
use Rattle.std.proofs.Common.{map}
use Rattle.bidi_tree.specs.Kind.{members_in}
use Rattle.bidi_tree.specs.View.{items_of}
use Rattle.bidi_shape.specs.Outcome.{handed_on}
use Rattle.bidi_values.proofs.SiblingLemmas.{siblings_misfit, value_misfit, around_again}
use Rattle.bidi_values.proofs.siblings.read_around.Goals as goal

pub returns-in_err-siblings-clause-no_fit : goal.returns-in_err-siblings-clause-no_fit
returns-in_err-siblings-clause-no_fit g c =
    handed_on _ _ c.from_residual-in_err-siblings.ensures.1 c.in_err-siblings.ensures.no_fit
    (siblings_misfit g.H.Siblings.siblings (g.S.Parsed.tree c.args.tree.now) (members_in (g.S.Parsed.tree c.args.tree.now)) c.in_ok-check_map.ensures.ok)

pub returns-in_err-items-clause-no_fit : goal.returns-in_err-items-clause-no_fit
returns-in_err-items-clause-no_fit g c =
    handed_on _ _ c.from_residual-in_err-items.ensures.1 c.in_err-items.ensures.no_fit
    (value_misfit g.H.Siblings.siblings (g.S.Parsed.tree c.args.tree.now) (members_in (g.S.Parsed.tree c.args.tree.now)) c.in_ok-check_map.ensures.ok)

pub returns-clause-ok : goal.returns-clause-ok
returns-clause-ok g c = (
  around_again g.H.Siblings.siblings (g.S.Parsed.tree c.args.tree.now) (members_in (g.S.Parsed.tree c.args.tree.now))
      c.in_ok-siblings.siblings (kind.list (items_of (map g.S.Parsed.tree c.in_ok-items.items.now)))
      c.in_ok-check_map.ensures.ok c.in_ok-siblings.ensures.sorted c.in_ok-siblings.ensures.ok.0 c.in_ok-siblings.ensures.rest c.in_ok-items.ensures.ok,
  c.in_ok-siblings.ensures.ok.1,
)
