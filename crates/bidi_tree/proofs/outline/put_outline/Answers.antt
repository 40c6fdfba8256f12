use Rattle.std.proofs.Common.{◌≡◌, ◌<◌, ◌-◌, zero, length, List, refl, sym, ap, ◌∙◌, subst, arith, is_ok}
use Rattle.std.specs.List.{insert}
use Rattle.std.specs.List.Sorted.{IsStrictlySortedBy}
use Rattle.std.specs.Map.{keys_of}
use Rattle.bidi_tree.specs.Outline.{outline_node, named_outlines}
use Rattle.bidi_tree.specs.Node.{put}
use Rattle.bidi_tree.proofs.OutlineLemmas.{OutlineMember, IsPast, by_name, before_at, before_end, past_same, past_above, put_over, put_between}
use Rattle.bidi_tree.proofs.OutlineLemmas.{AreAscending-named_outlines, sorted_put, sorted_if}
use Rattle.bidi_tree.proofs.outline.put_outline.Goals as goal
use Rattle.bidi_tree.proofs.outline.put_outline.Goals.{else-loop-place-test, then-loop-place-test+in-Greater}

pub loop-place-init : goal.loop-place-init
loop-place-init c =
    let ms = c.args.members.now.entries.items in
    record { within = omega (arith, c.len-place.ensures); same = refl; before = before_end c.args.name.now c.len-place.result ms (omega (arith, c.len-place.ensures)) }

pub returns-in-Equal-clause-ok : goal.returns-in-Equal-clause-ok
returns-in-Equal-clause-ok c =
    let l = c.loop-place in
    let ms = l.members.entries.items in
    let few : l.place - 1 < length ms = omega (arith, c.loop-place-test.true, l.invariant.within) in
    let same = sym c.cmp.ensures ∙ c.in-Equal.is in
    put_over c.args.name.now (l.place - 1) ms c.args.outline c.index.result.now c.index_mut.result.now
    (past_same c.args.name.now (l.place - 1) ms c.index.result.now (AreAscending-named_outlines ms l.members.ascend) few c.index.ensures same) few
    c.index.ensures c.index_mut.ensures.value same
    ∙ ap (λ ns. put c.args.name.now (outline_node c.args.outline) (named_outlines ns)) l.invariant.same

pub invariant_of-members : goal.invariant_of-members
invariant_of-members c =
    let l = c.loop-place in
    let ms = l.members.entries.items in
    let few : l.place - 1 < length ms = omega (arith, c.loop-place-test.true, l.invariant.within) in
    let same = sym c.cmp.ensures ∙ c.in-Equal.is in
    record {
      ascend = sorted_put ms _ c.args.name.now c.args.outline l.members.ascend
          (put_over c.args.name.now (l.place - 1) ms c.args.outline c.index.result.now c.index_mut.result.now
          (past_same c.args.name.now (l.place - 1) ms c.index.result.now (AreAscending-named_outlines ms l.members.ascend) few c.index.ensures same) few
          c.index.ensures c.index_mut.ensures.value same);
    }

pub loop-place-preserved : goal.loop-place-preserved
loop-place-preserved c =
    let l = c.loop-place in
    record {
      within = omega (arith, l.invariant.within);
      same = l.invariant.same;
      before = before_at c.args.name.now (l.place - 1) l.members.entries.items c.index.result.now c.index.ensures (sym c.cmp.ensures ∙ c.in-Less.is);
    }

pub returns-clause-ok : goal.returns-clause-ok
returns-clause-ok c =
    let l = c.loop-place in
    let ms = l.members.entries.items in
    let past : IsPast c.args.name.now l.place ms =
    elim c.loop-place-test.branch [
      | else-loop-place-test w ↦ let none : zero ≡ l.place = omega (arith, w.loop-place-test.false) in subst (λ i. IsPast c.args.name.now i ms) none tt
      | then-loop-place-test+in-Greater w ↦
          past_above c.args.name.now l.place ms w.index.result.now (AreAscending-named_outlines ms l.members.ascend)
          (omega (arith, w.loop-place-test.true)) l.invariant.within w.index.ensures (sym w.cmp.ensures ∙ w.in-Greater.is)
    ] in
    ap named_outlines c.in_ok-insert.ensures.items
    ∙ put_between c.args.name l.place ms c.args.outline past l.invariant.before
    ∙ ap (λ ns. put c.args.name.now (outline_node c.args.outline) (named_outlines ns)) l.invariant.same

pub invariant_of-members-2 : goal.invariant_of-members-2
invariant_of-members-2 c =
    let l = c.loop-place in
    let ms = l.members.entries.items in
    let past : IsPast c.args.name.now l.place ms =
    elim c.loop-place-test.branch [
      | else-loop-place-test w ↦ let none : zero ≡ l.place = omega (arith, w.loop-place-test.false) in subst (λ i. IsPast c.args.name.now i ms) none tt
      | then-loop-place-test+in-Greater w ↦
          past_above c.args.name.now l.place ms w.index.result.now (AreAscending-named_outlines ms l.members.ascend)
          (omega (arith, w.loop-place-test.true)) l.invariant.within w.index.ensures (sym w.cmp.ensures ∙ w.in-Greater.is)
    ] in
    let placed = sorted_put ms (insert ms l.place (c.args.name, c.args.outline)) c.args.name.now c.args.outline l.members.ascend
    (put_between c.args.name l.place ms c.args.outline past l.invariant.before) in
    record { ascend = subst (λ ns. IsStrictlySortedBy by_name (keys_of ns)) (sym {A = List OutlineMember} c.insert.ensures.items) (sorted_if (is_ok c.insert.result) _ ms placed l.members.ascend) }
