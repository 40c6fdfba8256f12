use Rattle.std.proofs.Common.{◌≡◌, ◌<◌, ◌+◌, ◌∷◌, length, drop, slice_index_or, true, ◌&&◌, sym, ap, ◌∙◌, subst, arith}
use Rattle.json.specs.Value.{value_view, members_view}
use Rattle.bidi_tree.specs.Json.{stands_whole, members_stand_whole}
use Rattle.bidi_tree.proofs.OutlineLemmas.{nth}
use Rattle.bidi_tree.proofs.WholeLemmas.{PutsWhole, puts-whole}
use Rattle.bidi_tree.proofs.value_whole.+parsed_whole.Goals as goal

pub members_are_parsed_whole-loop-member-preserved : goal.members_are_parsed_whole-loop-member-preserved
members_are_parsed_whole-loop-member-preserved t c =
    let l = c.loop-member in
    let ms = c.args.members.now.items in
    let m = c.member-item.result in
    let few : l.member-index < length ms = omega (arith, c.loop-member-test.true, l.auto.member-index-end) in
    let at : m ≡ slice_index_or ms l.member-index m = c.member-item.is ∙ ap (λ xs. slice_index_or xs l.member-index m) c.deref-member-items.ensures.value in
    let next : drop l.member-index ms ≡ m ∷ drop (l.member-index + 1) ms = nth ms l.member-index m few at in
    let rest = members_view (drop (l.member-index + 1) ms) in
    let stands : stands_whole (value_view m.1) c.args.limit ≡ true = sym c.is_parsed_whole.ensures.value ∙ c.if-not-is_parsed_whole.false in
    record {
      value =
          l.invariant.value ∙ ap (λ xs. members_stand_whole (members_view xs) c.args.limit) next
          ∙ ap (λ b. b && members_stand_whole rest c.args.limit) stands;
      whole =
          λ later. l.invariant.whole (subst (λ xs. PutsWhole (members_view xs) c.args.limit) (sym next)
          (puts-whole m.0.now (value_view m.1) rest c.args.limit (c.is_parsed_whole.ensures.whole c.if-not-is_parsed_whole.false) later));
    }
