use Rattle.std.proofs.Common.{◌≡◌, ◌∙◌, not, length, map, ap, arith, rules}
use Rattle.std.specs.Vec.{with_items}
use Rattle.std.proofs.lemmas.Fn.{filter_same}
use Rattle.std.proofs.lemmas.List.{length-map, with_items_is}
use Rattle.bidi_sessions.specs.SubscriptionView.{row_of}
use Rattle.bidi_sessions.specs.SubscriptionRows.{loses_all, stripped}
use Rattle.bidi_sessions.proofs.ListLemmas.{map-filter}
use Rattle.bidi_sessions.proofs.subscriptions.dismiss.Goals as goal

pub returns : goal.returns
returns c =
    let es = c.args.events.now in
    let after = c.strip.new.subscriptions in
    let kept = filter_same _ (λ s. not (loses_all es (row_of s))) _ (λ x b f' k. search rules) _ _ c.retain.ensures.filtered in
    let all = c.strip.ensures in
    let items : (with_items c.retain.new.self after).items ≡ after =
    let e = ap length all in let la = length-map after row_of in let lb = length-map (map row_of c.deref_mut.result.now) (stripped es) in
    let lc = length-map c.deref_mut.result.now row_of in
    let d = c.deref_mut.ensures.len in
    with_items_is c.retain.new.self after (omega (arith, e, la, lb, lc, d)) in
    ap (map row_of) items
    ∙ (all ∙ ap (map (stripped es))
    (ap (map row_of) (c.deref_mut.ensures.value ∙ kept) ∙ map-filter row_of (λ r. not (loses_all es r)) c.args.subscriptions.now.items))
