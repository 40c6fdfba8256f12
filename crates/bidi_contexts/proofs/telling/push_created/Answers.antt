use Rattle.bidi_methods.specs.contracts.event_data.EventDataPayloadEventName.TheImpl.{ghosts}
use Rattle.bidi_contexts.specs.View.{occurrence_of}
use Rattle.bidi_contexts.specs.ContextRows.{row_of, created_in}
use Rattle.bidi_contexts.proofs.PushLemmas.{told-more, AllByRecursion-more}
use Rattle.bidi_contexts.proofs.telling.push_created.Goals as goal

pub loop-context-preserved : goal.loop-context-preserved
loop-context-preserved c =
    let held = c.loop-context in
    let one = c.in_ok-created in record {
      told =
          told-more occurrence_of created_in row_of c.args.contexts.now held.context-index
          c.context-item.result c.args.all.now.items held.all.items c.push.new.self.items one.field-0
          c.loop-context-test.true c.context-item.is held.invariant.told c.in_ok-push.ensures.items one.ensures.told;
      well =
          λ w. AllByRecursion-more (λ o. ghosts.payload.well o.event) held.all.items c.push.new.self.items one.field-0
          c.in_ok-push.ensures.items (held.invariant.well w) one.ensures.well;
    }
