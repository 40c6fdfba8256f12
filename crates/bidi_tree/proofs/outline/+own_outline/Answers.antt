use Rattle.std.proofs.Common.{◌≡◌, ◌<◌, length, List, slice_index_or, ap, ◌∙◌, arith}
use Rattle.bidi_tree.specs.Outline.{outline_node}
use Rattle.bidi_tree.specs.View.{node}
use Rattle.bidi_tree.proofs.OutlineLemmas.{OutlineMember, put_nth, AreAscending-named_outlines}
use Rattle.bidi_tree.proofs.outline.+own_outline.Goals as goal

pub own_outline_members-loop-member-preserved : goal.own_outline_members-loop-member-preserved
own_outline_members-loop-member-preserved t c =
    let l = c.loop-member in
    let ms : List OutlineMember = c.args.members.now.entries.items in
    let m : OutlineMember = c.member-item.result in
    let same : node c.in_ok-tree.tree ≡ outline_node m.1 = c.in_ok-tree.ensures in
    let few : l.member-index < length ms = omega (arith, c.loop-member-test.true, l.auto.member-index-end, ap length c.as_slice-member-items.ensures) in
    let at : m ≡ slice_index_or ms l.member-index m = c.member-item.is ∙ ap (λ xs. slice_index_or xs l.member-index m) c.as_slice-member-items.ensures in
    c.in_ok-put_member.ensures.ok
    ∙ rw (c.in_ok-from_str.ensures.ok, same, l.invariant) (put_nth ms l.member-index m (AreAscending-named_outlines ms c.args.members.now.ascend) few at)
