use Rattle.std.proofs.Common.{◌≡◌, ◌∙◌, ◌<◌, ◌+◌, ℕ, List, ◌∷◌, Some, length, drop, slice_index_or, true, false, true≢false, sym, ap, subst, arith}
use Rattle.std.specs.Prelude.{bytes_eq}
use Rattle.std.proofs.lemmas.Slice.Eq.{bytes_eq-Decides}
use Rattle.bidi_tree.specs.Entries.{entries_of}
use Rattle.bidi_tree.specs.Node.{get_member}
use Rattle.bidi_tree.specs.Outline.{outline_node, named_outlines}
use Rattle.bidi_tree.proofs.MemberLemmas.{same_text, skips}
use Rattle.bidi_tree.proofs.OutlineLemmas.{OutlineMember, nth}
use Rattle.bidi_tree.proofs.outline.find_outline.Goals as goal

-- the members from this one on, if it has the name and if it has another
module _ (k : List ℕ) (all ms : List OutlineMember) (same : ms ≡ all) (i : ℕ) (m : OutlineMember) (few : i < length ms) (at : m ≡ slice_index_or ms i m) where
  rest : drop i all ≡ m ∷ drop (i + 1) all
  rest = subst (λ xs. drop i xs ≡ m ∷ drop (i + 1) xs) same (nth ms i m few at)

  named : bytes_eq m.0.now k ≡ true → get_member k (named_outlines (drop i all)) ≡ Some (outline_node m.1)
  named is =
      ap (λ xs. get_member k (named_outlines xs)) rest
      ∙ subst (λ l. get_member l (named_outlines (m ∷ drop (i + 1) all)) ≡ Some (outline_node m.1)) ((bytes_eq-Decides m.0.now k).0 is) (rw (same_text m.0.now))

  other : bytes_eq m.0.now k ≡ false → get_member k (named_outlines (drop i all)) ≡ get_member k (named_outlines (drop (i + 1) all))
  other is =
      ap (λ xs. get_member k (named_outlines xs)) rest
      ∙ skips k m.0.now (outline_node m.1) (named_outlines (drop (i + 1) all))
      (λ e. true≢false (sym ((bytes_eq-Decides m.0.now k).1 (sym e)) ∙ is))

pub returns-then-eq : goal.returns-then-eq
returns-then-eq c =
    sym (c.loop-member.invariant
    ∙ named c.args.name.now (entries_of c.args.members.now) c.as_slice-member-items.result.now c.as_slice-member-items.ensures c.loop-member.member-index
    c.member-item.result (omega (arith, c.loop-member-test.true, c.loop-member.auto.member-index-end)) c.member-item.is
    (sym c.eq.ensures ∙ c.if-eq.true))

pub loop-member-preserved : goal.loop-member-preserved
loop-member-preserved c =
    c.loop-member.invariant
    ∙ other c.args.name.now (entries_of c.args.members.now) c.as_slice-member-items.result.now c.as_slice-member-items.ensures c.loop-member.member-index
    c.member-item.result (omega (arith, c.loop-member-test.true, c.loop-member.auto.member-index-end)) c.member-item.is
    (sym c.eq.ensures ∙ c.if-eq.false)
