use Rattle.std.proofs.Common.{◌≡◌, ◌<◌, ◌+◌, List, true, false, length, take, map, slice_index_or, bytes_eq, refl, sym, ap, ◌∙◌, subst, arith}
use Rattle.std.specs.List.{list_any}
use Rattle.bidi_tree.specs.Entries.{entries_of}
use Rattle.bidi_tree.specs.Node.{put, AreAscending}
use Rattle.bidi_tree.specs.Outline.{outline_node, named_outlines}
use Rattle.bidi_tree.specs.View.{members_node}
use Rattle.bidi_tree.proofs.OutlineLemmas.{OutlineMember, put_nth, AreAscending-named_outlines}
use Rattle.bidi_tree.proofs.SoundLemmas.{AreAscending-put}
use Rattle.bidi_shape.specs.Fits.{without}
use Rattle.bidi_shape.specs.MapLaws.{without-put}
use Rattle.bidi_shape.specs.OthersLaws.{without-put_other}
use Rattle.bidi_shape.proofs.parsed_outline.unlisted.Goals as goal

pub returns-clause-sorted : goal.returns-clause-sorted
returns-clause-sorted c = AreAscending-named_outlines (entries_of c.args.members.now) c.args.members.now.ascend

pub loop-member-preserved-then-is_listed : goal.loop-member-preserved-then-is_listed
loop-member-preserved-then-is_listed c =
    let l = c.loop-member in
    let ms : List OutlineMember = entries_of c.args.members.now in
    let m : OutlineMember = c.member-item.result in
    let ks = map (λ s. s.now) c.args.names.now in
    let few : l.member-index < length ms = omega (arith, c.loop-member-test.true, l.auto.member-index-end, ap length c.as_slice-member-items.ensures) in
    let at : m ≡ slice_index_or ms l.member-index m = c.member-item.is ∙ ap (λ xs. slice_index_or xs l.member-index m) c.as_slice-member-items.ensures in
    let before = named_outlines (take l.member-index ms) in
    let next : put m.0.now (outline_node m.1) before ≡ named_outlines (take (l.member-index + 1) ms) =
    put_nth ms l.member-index m (AreAscending-named_outlines ms c.args.members.now.ascend) few at in
    let listed : list_any (bytes_eq m.0.now) ks ≡ true = sym c.is_listed.ensures ∙ c.if-is_listed.true in
    record {
      ascending = subst AreAscending next (AreAscending-put m.0.now (outline_node m.1) before l.invariant.ascending);
      rest = l.invariant.rest ∙ sym (without-put ks m.0.now (outline_node m.1) before listed) ∙ ap (without ks) next;
    }

pub loop-member-preserved : goal.loop-member-preserved
loop-member-preserved c =
    let l = c.loop-member in
    let ms : List OutlineMember = entries_of c.args.members.now in
    let m : OutlineMember = c.member-item.result in
    let ks = map (λ s. s.now) c.args.names.now in
    let few : l.member-index < length ms = omega (arith, c.loop-member-test.true, l.auto.member-index-end, ap length c.as_slice-member-items.ensures) in
    let at : m ≡ slice_index_or ms l.member-index m = c.member-item.is ∙ ap (λ xs. slice_index_or xs l.member-index m) c.as_slice-member-items.ensures in
    let before = named_outlines (take l.member-index ms) in
    let next : put m.0.now (outline_node m.1) before ≡ named_outlines (take (l.member-index + 1) ms) =
    put_nth ms l.member-index m (AreAscending-named_outlines ms c.args.members.now.ascend) few at in
    let listed : list_any (bytes_eq m.0.now) ks ≡ false = sym c.is_listed.ensures ∙ c.if-is_listed.false in
    let added : members_node c.put_member.new.members.entries ≡ put m.0.now (outline_node m.1) (members_node l.rest.entries) =
    c.in_ok-put_member.ensures.ok ∙ rw (c.in_ok-from_str.ensures.ok, c.in_ok-tree.ensures) refl in
    record {
      ascending = subst AreAscending next (AreAscending-put m.0.now (outline_node m.1) before l.invariant.ascending);
      rest =
          added ∙ ap (put m.0.now (outline_node m.1)) l.invariant.rest
          ∙ sym (without-put_other ks m.0.now (outline_node m.1) before l.invariant.ascending listed) ∙ ap (without ks) next;
    }
