use Rattle.std.proofs.Common.{◌∙◌, sym, refl, true≢false}
use Rattle.bidi_contexts.specs.Contexts.{is_alive}
use Rattle.bidi_sessions.specs.SubscriptionView.{scope_of}
use Rattle.bidi_sessions.specs.SubscriptionsView.{rows_of}
use Rattle.bidi_sessions.specs.SubscriptionRows.{any_covers}
use Rattle.bidi_active.proofs.NewLemmas.{is-new, live-decides, not_covered, not_new}
use Rattle.bidi_active.proofs.announcing.is_new.Goals.{then-covers, else-covers}
use Rattle.bidi_active.proofs.announcing.is_new.Goals as goal

pub returns-then-not-hears : goal.returns-then-not-hears
returns-then-not-hears c = λ past stands.
    let held = rows_of c.args.held.now in
    let scope = scope_of c.args.scope.now in
    elim c.if-covers.branch [
      | then-covers w ↦
          live-decides c.is_live.result w.hears.result c.covers.result (sym w.value-is ∙ c.if-not-hears.true) w.if-covers.true
          ∙ is-new past held c.args.events.now scope c.args.event c.args.top _ _ _ (c.is_live.ensures past stands) w.hears.ensures c.covers.ensures
      | else-covers w ↦ absurd (true≢false (sym c.if-not-hears.true ∙ (w.value-is ∙ w.if-covers.false)))
    ]

pub returns-else-not-hears : goal.returns-else-not-hears
returns-else-not-hears c = λ past stands.
    let held = rows_of c.args.held.now in
    let e = c.args.event in
    let top = c.args.top in
    let live = is_alive past top.number in
    let scope = scope_of c.args.scope.now in
    elim c.if-covers.branch [
      | then-covers w ↦
          c.if-not-hears.false
          ∙ (not_new live w.hears.result c.covers.result (sym w.value-is ∙ c.if-not-hears.false)
          ∙ is-new past held c.args.events.now scope e top live _ _ refl w.hears.ensures c.covers.ensures)
      | else-covers w ↦
          let was = any_covers held e top in
          c.if-not-hears.false
          ∙ (not_covered live was c.covers.result w.if-covers.false ∙ is-new past held c.args.events.now scope e top live was _ refl refl c.covers.ensures)
    ]
