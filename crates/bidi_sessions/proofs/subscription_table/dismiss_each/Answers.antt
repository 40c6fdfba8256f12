use Rattle.bidi_sessions.specs.IndexRows.{without_global}
use Rattle.bidi_sessions.proofs.IndexLemmas.{rows-next, rows-all}
use Rattle.bidi_sessions.proofs.subscription_table.dismiss_each.Goals as goal

pub loop-index-preserved : goal.loop-index-preserved
loop-index-preserved c =
    rows-next (without_global c.args.events.now) c.args.by_event.now c.loop-index.by_event c.loop-index.index-index c.index-item.result c.dismiss.new.self
    c.loop-index-test.true c.loop-index.invariant c.index-item.is c.dismiss.ensures

pub returns : goal.returns
returns c = rows-all (without_global c.args.events.now) c.args.by_event.now c.loop-index.by_event c.loop-index.index-index c.loop-index-test.false c.loop-index.invariant
