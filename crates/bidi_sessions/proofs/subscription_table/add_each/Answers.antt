use Rattle.bidi_sessions.specs.SubscriptionView.{row_of}
use Rattle.bidi_sessions.specs.IndexRows.{with_row}
use Rattle.bidi_sessions.specs.IndexView.{HasRoomFor}
use Rattle.bidi_sessions.proofs.IndexLemmas.{rows-next, rows-all, later-stays}
use Rattle.bidi_sessions.proofs.subscription_table.add_each.Goals as goal

pub loop-index-preserved : goal.loop-index-preserved
loop-index-preserved c =
    let r = row_of c.args.subscription.now in
    let items = c.loop-index.by_event in
    let i = c.loop-index.index-index in (
      rows-next (with_row r) c.args.by_event.now items i c.index-item.result c.add.new.self c.loop-index-test.true c.loop-index.invariant.0 c.index-item.is c.add.ensures,
      later-stays (HasRoomFor r.events r.scope) items i c.add.new.self c.loop-index.invariant.1,
    )

pub returns : goal.returns
returns c =
    rows-all (with_row (row_of c.args.subscription.now)) c.args.by_event.now c.loop-index.by_event c.loop-index.index-index c.loop-index-test.false
    c.loop-index.invariant.0
