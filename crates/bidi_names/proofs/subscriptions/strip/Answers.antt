use Rattle.std.proofs.Common.{◌∙◌, ◌<◌, length, map, set, get_or, string_bytes, sym, ap, arith}
use Rattle.std.specs.Prelude.{◌==◌, ◌&&◌}
use Rattle.std.proofs.lemmas.List.{map-set, length-map}
use Rattle.std.proofs.Math.ListN.{get_or-map}
use Rattle.bidi_sessions.specs.Scope.{is_global}
use Rattle.bidi_sessions.proofs.BeginLemmas.{over-all, over-next}
use Rattle.bidi_names.specs.Subscriptions.{stripped, named_of}
use Rattle.bidi_names.proofs.SubscriptionLemmas.{stripped-global, stripped-other}
use Rattle.bidi_names.proofs.subscriptions.strip.Goals.{then-is_global_of, else-is_global_of}
use Rattle.bidi_names.proofs.subscriptions.strip.Goals as goal

pub loop-subscription-preserved : goal.loop-subscription-preserved
loop-subscription-preserved c =
    let s = c.args.session in
    let names = map string_bytes c.args.names.now in
    let modules = map string_bytes c.args.modules.now in
    let i = c.loop-subscription.subscription-index in
    let items = c.loop-subscription.subscriptions in
    let x = c.subscription-item.result in
    let all = map named_of c.args.subscriptions.now in
    let long = length-map c.args.subscriptions.now named_of in
    let less : i < length all = let a = c.loop-subscription-test.true in omega (arith, a, long) in
    let at = get_or-map named_of items i x ∙ ap named_of (sym c.subscription-item.is) in
    let changed = sym (over-next (stripped s names modules) i all (map named_of items) (named_of x) less c.loop-subscription.invariant at) in
    elim c.if-is_global_of.branch [
      | then-is_global_of w ↦
          ap (map named_of) w.subscriptions-is ∙ (map-set named_of items i _
          ∙ (ap (set (map named_of items) i) (w.lose.ensures ∙ (stripped-global s names modules (named_of (get_or items i x))
          (sym c.is_global_of.ensures ∙ w.if-is_global_of.true)
          ∙ ap (λ z. stripped s names modules (named_of z)) (sym c.subscription-item.is))) ∙ changed))
      | else-is_global_of w ↦
          ap (map named_of) w.subscriptions-is ∙ (map-set named_of items i _
          ∙ (ap (set (map named_of items) i) (ap named_of (sym c.subscription-item.is) ∙ sym (stripped-other s names modules (named_of x)
          (ap (λ z. ((named_of z).session == s) && is_global (named_of z).scope) c.subscription-item.is ∙ (sym c.is_global_of.ensures ∙ w.if-is_global_of.false)))) ∙ changed))
    ]

pub returns : goal.returns
returns c =
    let long = length-map c.args.subscriptions.now named_of in
    c.loop-subscription.invariant ∙ over-all (stripped c.args.session (map string_bytes c.args.names.now) (map string_bytes c.args.modules.now)) c.loop-subscription.subscription-index
    (map named_of c.args.subscriptions.now) (let all = c.loop-subscription-test.false in omega (arith, all, long))
