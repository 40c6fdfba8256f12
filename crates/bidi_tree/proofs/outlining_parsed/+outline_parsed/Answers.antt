use Rattle.std.proofs.Common.{◌≡◌, ◌<◌, ◌+◌, ◌∷◌, length, drop, map, slice_index_or, sym, ap, ◌∙◌, arith, take_all}
use Rattle.json.specs.Value.{members_view}
use Rattle.bidi_tree.specs.Json.{parsed, put_all}
use Rattle.bidi_tree.specs.Outline.{outline_members, named_outlines}
use Rattle.bidi_tree.specs.Node.{put}
use Rattle.bidi_tree.specs.View.{items_of}
use Rattle.bidi_tree.proofs.OutlineLemmas.{nth, named_outlines-insert_entry}
use Rattle.bidi_tree.proofs.JsonLemmas.{items_parsed}
use Rattle.bidi_tree.proofs.outlining_parsed.+outline_parsed.Goals as goal

pub outlines_parsed-returns : goal.outlines_parsed-returns
outlines_parsed-returns t c =
    let vs = c.args.items.now.items in
    ap items_of (c.loop-item.invariant ∙ ap (map parsed) (take_all c.loop-item.item-index vs (omega arith))) ∙ items_parsed vs

pub few_parsed-loop-member-preserved : goal.few_parsed-loop-member-preserved
few_parsed-loop-member-preserved t c =
    let l = c.loop-member in
    let ms = c.args.members.now.items in
    let m = c.member-item.result in
    let few : l.member-index < length ms = omega (arith, c.loop-member-test.true, l.auto.member-index-end) in
    let at : m ≡ slice_index_or ms l.member-index m = c.member-item.is ∙ ap (λ xs. slice_index_or xs l.member-index m) c.deref-member-items.ensures.value in
    let next : drop l.member-index ms ≡ m ∷ drop (l.member-index + 1) ms = nth ms l.member-index m few at in
    let found : outline_members c.put_outline.new.members ≡ put m.0.now (parsed m.1) (outline_members l.sorted) =
    c.in_ok-put_outline.ensures.ok ∙ ap (λ n. put m.0.now n (outline_members l.sorted)) c.in_ok-outline.ensures in
    ap (put_all (members_view (drop (l.member-index + 1) ms))) found
    ∙ sym (ap (λ xs. put_all (members_view xs) (outline_members l.sorted)) next) ∙ l.invariant

pub many_parsed-loop-member-preserved : goal.many_parsed-loop-member-preserved
many_parsed-loop-member-preserved t c =
    let l = c.loop-member in
    let ms = c.args.members.now.items in
    let m = c.member-item.result in
    let few : l.member-index < length ms = omega (arith, c.loop-member-test.true, l.auto.member-index-end) in
    let at : m ≡ slice_index_or ms l.member-index m = c.member-item.is ∙ ap (λ xs. slice_index_or xs l.member-index m) c.deref-member-items.ensures.value in
    let next : drop l.member-index ms ≡ m ∷ drop (l.member-index + 1) ms = nth ms l.member-index m few at in
    let found : named_outlines c.insert.new.self.entries ≡ put m.0.now (parsed m.1) (named_outlines l.sorted.entries) =
    ap named_outlines c.in_ok-insert.ensures.entries ∙ named_outlines-insert_entry l.sorted.entries m.0 c.in_ok-outline.outline
    ∙ ap (λ n. put m.0.now n (named_outlines l.sorted.entries)) c.in_ok-outline.ensures in
    ap (put_all (members_view (drop (l.member-index + 1) ms))) found
    ∙ sym (ap (λ xs. put_all (members_view xs) (named_outlines l.sorted.entries)) next) ∙ l.invariant
