use Rattle.std.proofs.Common.{◌∙◌, arith}
use Rattle.bidi_sessions.specs.SubscriptionView.{scope_of}
use Rattle.bidi_sessions.specs.IndexView.{HasRoomFor}
use Rattle.bidi_sessions.proofs.IndexLemmas.{row-again, earlier-more}
use Rattle.bidi_sessions.proofs.subscription_table.reserve_each.Goals as goal

pub returns-in_err-reserve-clause-rows : goal.returns-in_err-reserve-clause-rows
returns-in_err-reserve-clause-rows c =
    row-again c.loop-index.by_event c.loop-index.index-index c.index-item.result c.reserve.new.self c.index-item.is c.reserve.ensures.row ∙ c.loop-index.invariant.0

pub loop-index-preserved : goal.loop-index-preserved
loop-index-preserved c =
    let items = c.loop-index.by_event in
    let i = c.loop-index.index-index in
    let less = c.loop-index-test.true in
    let long = c.loop-index.auto.by_event in (
      row-again items i c.index-item.result c.reserve.new.self c.index-item.is c.reserve.ensures.row ∙ c.loop-index.invariant.0,
      earlier-more (HasRoomFor c.args.events.now (scope_of c.args.scope.now)) items i c.reserve.new.self (omega (arith, less, long)) c.loop-index.invariant.1 c.in_ok-reserve.ensures.room,
    )
