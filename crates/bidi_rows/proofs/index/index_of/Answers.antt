use Rattle.std.proofs.Common.{◌≡◌, ◌<◌, ◌≤◌, ◌+◌, refl, ◌++◌, ◌∷◌, [], length, get_or, take, sym, ap, ◌∙◌, subst, arith, take_all}
use Rattle.std.proofs.lemmas.List.{take_more}
use Rattle.json.specs.Json.{object}
use Rattle.json.specs.Value.{members_view}
use Rattle.bidi_rows.specs.Index.{IsIndexOf}
use Rattle.bidi_rows.proofs.IndexLemmas.{index_more, index_none}
use Rattle.bidi_rows.proofs.index.index_of.Goals as goal

pub loop-member-init : goal.loop-member-init
loop-member-init c = index_none c.new-index.result c.new-index.ensures.empty

pub loop-member-preserved : goal.loop-member-preserved
loop-member-preserved c =
    let l = c.loop-member in
    let ms = c.args.members.now.items in
    let m = c.member-item.result in
    let few : l.member-index < length ms = omega (arith, c.loop-member-test.true, l.auto.member-index-end, ap length c.deref-member-items.ensures.value) in
    let at : m ≡ get_or ms l.member-index m = c.member-item.is ∙ ap (λ xs. get_or xs l.member-index m) c.deref-member-items.ensures.value in
    let more : take (l.member-index + 1) ms ≡ take l.member-index ms ++ m ∷ [] =
    take_more ms l.member-index m few ∙ ap (λ x. take l.member-index ms ++ x ∷ []) (sym at) in
    subst (λ xs. IsIndexOf c.insert.new.self (object (members_view xs))) (sym more)
    (index_more l.index c.insert.new.self (take l.member-index ms) m _ refl c.in_ok-insert.ensures.updates l.invariant)

pub returns : goal.returns
returns c =
    let ms = c.args.members.now.items in
    let long : length ms ≤ c.loop-member.member-index = omega (arith, c.loop-member-test.false, ap length c.deref-member-items.ensures.value) in
    subst (λ xs. IsIndexOf c.loop-member.index (object (members_view xs))) (take_all c.loop-member.member-index ms long) c.loop-member.invariant
