use Rattle.std.proofs.Common.{◌∙◌, ◌<◌, length, map, set, get_or, sym, ap, arith, rules}
use Rattle.std.proofs.lemmas.Fn.{filter_same}
use Rattle.std.proofs.lemmas.List.{map-set, length-map}
use Rattle.std.proofs.Math.ListN.{get_or-map}
use Rattle.bidi_sessions.specs.Scope.{is_global}
use Rattle.bidi_sessions.specs.SubscriptionView.{row_of}
use Rattle.bidi_sessions.specs.SubscriptionRows.{stripped}
use Rattle.bidi_sessions.proofs.BeginLemmas.{over-all, over-next}
use Rattle.bidi_sessions.proofs.StripLemmas.{stripped-global, stripped-other}
use Rattle.bidi_sessions.proofs.subscriptions.strip.Goals.{then-is_global, else-is_global}
use Rattle.bidi_sessions.proofs.subscriptions.strip.Goals as goal

pub loop-subscription-preserved : goal.loop-subscription-preserved
loop-subscription-preserved c =
    let es = c.args.events.now in
    let i = c.loop-subscription.subscription-index in
    let items = c.loop-subscription.subscriptions in
    let x = c.subscription-item.result in
    let rows = map row_of c.args.subscriptions.now in
    let long = length-map c.args.subscriptions.now row_of in
    let less : i < length rows = let a = c.loop-subscription-test.true in omega (arith, a, long) in
    let at = get_or-map row_of items i x ∙ ap row_of (sym c.subscription-item.is) in
    let changed = sym (over-next (stripped es) i rows (map row_of items) (row_of x) less c.loop-subscription.invariant at) in
    elim c.if-is_global.branch [
      | then-is_global w ↦
          let left = filter_same _ _ _ (λ e b f' k. search rules) _ _ w.retain.ensures.filtered in
          ap (map row_of) w.subscriptions-is ∙ (map-set row_of items i _
          ∙ (ap (set (map row_of items) i) (stripped-global es (row_of (get_or items i x)) _ (sym c.is_global.ensures ∙ w.if-is_global.true) left
          ∙ ap (λ z. stripped es (row_of z)) (sym c.subscription-item.is)) ∙ changed))
      | else-is_global w ↦
          ap (map row_of) w.subscriptions-is ∙ (map-set row_of items i _
          ∙ (ap (set (map row_of items) i) (ap row_of (sym c.subscription-item.is) ∙ sym (stripped-other es (row_of x)
          (ap (λ z. is_global (row_of z).scope) c.subscription-item.is ∙ (sym c.is_global.ensures ∙ w.if-is_global.false)))) ∙ changed))
    ]

pub returns : goal.returns
returns c =
    let long = length-map c.args.subscriptions.now row_of in
    c.loop-subscription.invariant ∙ over-all (stripped c.args.events.now) c.loop-subscription.subscription-index
    (map row_of c.args.subscriptions.now) (let all = c.loop-subscription-test.false in omega (arith, all, long))
