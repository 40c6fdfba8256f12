use Rattle.std.proofs.Common.{◌≡◌, [], ◌∷◌, ◌++◌, string_bytes, sym, ap, ◌∙◌, subst, append_assoc}
use Rattle.std.specs.List.Sorted.{IsStrictlySortedBy}
use Rattle.std.specs.Map.{keys_of}
use Rattle.std.specs.String.{string_cmp}
use Rattle.bidi_tree.specs.Node.{MembersAreSound}
use Rattle.bidi_tree.specs.View.{members_node}
use Rattle.bidi_tree.proofs.SoundLemmas.{AreAscending-members_node}
use Rattle.bidi_tree.proofs.TreeLemmas.{Entry, put_last, members_node-insert_entry}
use Rattle.bidi_tree.proofs.copying.+copy.Goals as goal

-- each name is above those that were copied before it, so it is put last
pub copy_members-loop-key-preserved : goal.copy_members-loop-key-preserved
copy_members-loop-key-preserved t c =
    let l = c.loop-key in
    let done = l.invariant.0 in
    let e : Entry = (c.in-Some.key.now, c.in-Some.tree.now) in
    let left = c.next.new.self in
    let next : l.key-iterator ≡ e ∷ left = c.in-Some.ensures.steps in
    let all : c.args.members.now.entries ≡ done ++ e ∷ left = l.invariant.1 ∙ ap (λ es. done ++ es) next in
    let last = put_last done e left (subst (λ es. IsStrictlySortedBy string_cmp (keys_of es)) all c.iter-key-items.ensures.ordered) in
    let named : string_bytes c.in_ok-name.name ≡ string_bytes e.0 = c.in_ok-name.ensures.cases in
    let inserted = ap members_node c.in_ok-insert.ensures.entries ∙ members_node-insert_entry l.copies.entries c.in_ok-name.name c.in_ok-copy.field-0 in (
      done ++ e ∷ [],
      all ∙ sym (append_assoc done (e ∷ []) left),
      inserted ∙ rw (named, c.in_ok-copy.ensures.same, l.invariant.2) last,
      λ s. l.invariant.3 (subst (λ es. MembersAreSound (members_node es)) (sym next) (c.in_ok-copy.ensures.sound, s)),
    )

pub copy_members-returns-clause-ascending : goal.copy_members-returns-clause-ascending
copy_members-returns-clause-ascending t c = AreAscending-members_node c.args.members.now.entries c.iter-key-items.ensures.ordered
