use Rattle.std.proofs.Common.{◌∙◌, ap}
use Rattle.bidi_tree.specs.View.{members_node}
use Rattle.bidi_browser.proofs.NavigationLemmas.{again-tree, again-well}
use Rattle.bidi_browser.proofs.navigation.again.Goals as goal

pub returns-clause-tree : goal.returns-clause-tree
returns-clause-tree c =
    again-tree c.args.info.now c.in_ok-from_str.field-0 c.in_ok-copied.field-0 c.in_ok-from_str-2.field-0 c.of.result
    (c.in_ok-from_str.ensures.ok ∙ c.deref.ensures) c.in_ok-copied.ensures (c.in_ok-from_str-2.ensures.ok ∙ c.deref-2.ensures)
    (ap (λ m. members_node m.entries) c.of.ensures ∙ c.in_ok-copy_members.ensures)

pub returns-clause-well : goal.returns-clause-well
returns-clause-well c = λ well.
    again-well c.args.info.now c.in_ok-from_str.field-0 c.in_ok-copied.field-0 c.in_ok-from_str-2.field-0 c.of.result c.in_ok-copied.ensures
    (ap (λ m. members_node m.entries) c.of.ensures ∙ c.in_ok-copy_members.ensures) well
