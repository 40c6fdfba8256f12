use Rattle.std.proofs.Common.{◌≡◌, [], ◌∷◌, ◌++◌, sym, ap, ◌∙◌, subst, append_assoc, append-nil}
use Rattle.bidi_tree.specs.Node.{AreAscending}
use Rattle.bidi_tree.specs.Outline.{named_outlines}
use Rattle.bidi_tree.specs.View.{members_node}
use Rattle.bidi_tree.proofs.SoundLemmas.{AreAscending-members_node}
use Rattle.bidi_tree.proofs.TreeLemmas.{Entry}
use Rattle.bidi_tree.proofs.OutlineLemmas.{one_more, sorted_names}
use Rattle.bidi_tree.proofs.outlining.+outline.Goals as goal

pub outline_members_of-loop-name-preserved : goal.outline_members_of-loop-name-preserved
outline_members_of-loop-name-preserved t c =
    let l = c.loop-name in
    let done = l.invariant.0 in
    let e : Entry = (c.in-Some.name.now, c.in-Some.member.now) in
    let left = c.next.new.self in
    let next : l.name-iterator ≡ e ∷ left = c.in-Some.ensures.steps in
    let all : c.args.members.now.entries ≡ done ++ e ∷ left = l.invariant.1 ∙ ap (λ es. done ++ es) next in (
      done ++ e ∷ [],
      all ∙ sym (append_assoc done (e ∷ []) left),
      ap named_outlines c.in_ok-push.ensures.items ∙ one_more l.outlines.items done (c.as_str.result, c.in_ok-outline_of.field-0) e l.invariant.2
          c.as_str.ensures.value c.in_ok-outline_of.ensures,
    )

pub outline_members_of-invariant_of-result : goal.outline_members_of-invariant_of-result
outline_members_of-invariant_of-result t c =
    let done = c.loop-name.invariant.0 in
    let all : c.args.members.now.entries ≡ done = c.loop-name.invariant.1 ∙ ap (λ es. done ++ es) c.in-None.ensures.steps.0 ∙ append-nil done in
    record {
      ascend = sorted_names c.loop-name.outlines.items
          (subst AreAscending (sym (c.loop-name.invariant.2 ∙ ap members_node (sym all))) (AreAscending-members_node c.args.members.now.entries c.iter-name-items.ensures.ordered));
    }
