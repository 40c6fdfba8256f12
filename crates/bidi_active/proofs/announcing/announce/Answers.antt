use Rattle.std.proofs.Common.{◌∙◌, ◌<◌, length, map, set, sym, ap, arith}
use Rattle.std.specs.Prelude.{None}
use Rattle.std.proofs.lemmas.List.{map-set, length-map}
use Rattle.std.proofs.Math.ListN.{get_or-map}
use Rattle.bidi_methods.specs.declared.event_data.EventName.TheVariants.{EntryAdded}
use Rattle.bidi_active.specs.Written.{place_row, written_of}
use Rattle.bidi_active.specs.Places.{left}
use Rattle.bidi_sessions.specs.SubscriptionView.{scope_of}
use Rattle.bidi_sessions.specs.SubscriptionsView.{rows_of}
use Rattle.bidi_active.specs.News.{is_new}
use Rattle.bidi_sessions.proofs.BeginLemmas.{over-all, over-next, over-kept}
use Rattle.bidi_active.proofs.AnnounceLemmas.{never-new}
use Rattle.bidi_active.proofs.PlaceLemmas.{left-new, left-old, left-empty, none-left}
use Rattle.bidi_active.proofs.announcing.announce.Goals.{then-is_new+in-Some-1, then-is_new+in-None-1, else-is_new}
use Rattle.bidi_active.proofs.announcing.announce.Goals as goal

pub returns-then-not-may_be_new-clause-places : goal.returns-then-not-may_be_new-clause-places
returns-then-not-may_be_new-clause-places c = λ past stands.
    let rows = rows_of c.args.held.now in
    let es = c.args.events.now in
    let scope = scope_of c.args.scope.now in
    none-left (is_new past rows es scope EntryAdded) (map place_row c.args.places.now.items)
    (λ top. never-new past rows es scope EntryAdded top (sym c.may_be_new.ensures ∙ c.if-not-may_be_new.true))

pub loop-at-preserved-in-None : goal.loop-at-preserved-in-None
loop-at-preserved-in-None c =
    let i = c.loop-at.at in
    let items = c.loop-at.places.items in
    let x = c.index.result.now in
    let rows = map place_row c.args.places.now.items in
    let less : i < length rows = let test = c.loop-at-test.true in let end = c.len-at-end.ensures in
    let ok = c.args.places.now.ok.0 in let long = length-map c.args.places.now.items place_row in omega (arith, test, end, ok, long) in
    let at = get_or-map place_row items i x ∙ ap place_row (sym c.index.ensures) in (
      c.loop-at.invariant.0,
      c.loop-at.invariant.1,
      λ past stands.
          let p = is_new past (rows_of c.args.held.now) c.args.events.now (scope_of c.args.scope.now) EntryAdded in
          over-kept (left p) i rows (map place_row items) (place_row x) less (c.loop-at.invariant.2 past stands) at
          (left-empty p (place_row x) (ap place_row c.in-None.is)),
    )

pub loop-at-preserved : goal.loop-at-preserved
loop-at-preserved c =
    let i = c.loop-at.at in
    let items = c.loop-at.places.items in
    let x = c.index.result.now in
    let rows = map place_row c.args.places.now.items in
    let less : i < length rows = let test = c.loop-at-test.true in let end = c.len-at-end.ensures in
    let ok = c.args.places.now.ok.0 in let long = length-map c.args.places.now.items place_row in omega (arith, test, end, ok, long) in
    let at = get_or-map place_row items i x ∙ ap place_row (sym c.index.ensures) in
    let entry = written_of c.in-Some.entry.value in
    let is = ap place_row c.in-Some.is in
    let top = ap (λ e. e.top) c.deref.ensures in
    elim c.if-is_new.branch [
      | then-is_new+in-Some-1 w ↦ (
        ap (λ q. q.len) w.places-is ∙ c.loop-at.invariant.0,
        ap (λ q. q.cap) w.places-is ∙ c.loop-at.invariant.1,
        λ past stands.
            let p = is_new past (rows_of c.args.held.now) c.args.events.now (scope_of c.args.scope.now) EntryAdded in
            ap (λ q. map place_row q.items) w.places-is ∙ (map-set place_row items i None
            ∙ (ap (set (map place_row items) i) (left-new p (place_row x) entry is (ap p (sym top) ∙ (sym (c.is_new.ensures past stands) ∙ w.if-is_new.true)))
            ∙ sym (over-next (left p) i rows (map place_row items) (place_row x) less (c.loop-at.invariant.2 past stands) at))),
      )
      | then-is_new+in-None-1 w ↦ (
        ap (λ q. q.len) w.places-is ∙ c.loop-at.invariant.0,
        ap (λ q. q.cap) w.places-is ∙ c.loop-at.invariant.1,
        λ past stands.
            let p = is_new past (rows_of c.args.held.now) c.args.events.now (scope_of c.args.scope.now) EntryAdded in
            ap (λ q. map place_row q.items) w.places-is ∙ (map-set place_row items i None
            ∙ (ap (set (map place_row items) i) (left-new p (place_row x) entry is (ap p (sym top) ∙ (sym (c.is_new.ensures past stands) ∙ w.if-is_new.true)))
            ∙ sym (over-next (left p) i rows (map place_row items) (place_row x) less (c.loop-at.invariant.2 past stands) at))),
      )
      | else-is_new w ↦ (
        ap (λ q. q.len) w.places-is ∙ c.loop-at.invariant.0,
        ap (λ q. q.cap) w.places-is ∙ c.loop-at.invariant.1,
        λ past stands.
            let p = is_new past (rows_of c.args.held.now) c.args.events.now (scope_of c.args.scope.now) EntryAdded in
            ap (λ q. map place_row q.items) w.places-is
            ∙ over-kept (left p) i rows (map place_row items) (place_row x) less (c.loop-at.invariant.2 past stands) at
            (left-old p (place_row x) entry is (ap p (sym top) ∙ (sym (c.is_new.ensures past stands) ∙ w.if-is_new.false))),
      )
    ]

pub returns-clause-places : goal.returns-clause-places
returns-clause-places c = λ past stands.
    let long = length-map c.args.places.now.items place_row in
    let all = c.loop-at-test.false in
    let end = c.len-at-end.ensures in
    let ok = c.args.places.now.ok.0 in
    c.loop-at.invariant.2 past stands
    ∙ over-all (left (is_new past (rows_of c.args.held.now) c.args.events.now (scope_of c.args.scope.now) EntryAdded)) c.loop-at.at
    (map place_row c.args.places.now.items) (omega (arith, all, end, ok, long))
